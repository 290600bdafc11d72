pub mod Answers
pub mod History
pub mod Validator
