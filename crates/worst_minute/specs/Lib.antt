pub mod Answers
pub mod Calls
pub mod History
pub mod Layout
pub mod Minute
pub mod Steps
