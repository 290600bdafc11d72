pub mod ReadingLaws
pub mod Sheet
