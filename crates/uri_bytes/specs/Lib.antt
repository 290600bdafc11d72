pub mod Bytes
pub mod Classes
