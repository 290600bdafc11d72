pub mod LineLaws
pub mod LookupLaws
pub mod TableLaws
pub mod NamedLaws
