pub mod Answers
pub mod Lookups
pub mod Search
