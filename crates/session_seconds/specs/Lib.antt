pub mod Answers
pub mod Seconds
