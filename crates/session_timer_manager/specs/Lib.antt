pub mod Answers
pub mod Intervals
pub mod Refresher
