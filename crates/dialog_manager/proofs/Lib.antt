pub mod LookupLaws
pub mod SearchLaws
