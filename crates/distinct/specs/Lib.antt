pub mod Distinct
pub mod Keys
pub mod Marks
pub mod Pairs
pub mod Runs
pub mod Sorting
