pub mod MadeLaws
pub mod NewLaws
