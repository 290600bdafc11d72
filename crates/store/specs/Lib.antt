pub mod Counting
pub mod Identifiers
pub mod Reading
