pub mod BlockLaws
pub mod ContactLaws
