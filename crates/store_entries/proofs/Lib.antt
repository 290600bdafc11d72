pub mod EntryLaws
pub mod LocateLaws
