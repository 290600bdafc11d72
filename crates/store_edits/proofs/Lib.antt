pub mod AheadLaws
pub mod RemoveLaws
pub mod StateLaws
pub mod SweepLaws
