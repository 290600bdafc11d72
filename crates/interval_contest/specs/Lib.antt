pub mod Answers
pub mod ClosedForm
pub mod Contest
