pub mod Alike
pub mod Digits
pub mod Lengths
pub mod Runs
pub mod Sames
pub mod Trimming
pub mod Words
pub mod SegmentLaws
