pub mod Listed
pub mod Readings
