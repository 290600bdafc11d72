pub mod MoveLaws
pub mod PartLaws
pub mod RevisedLaws
