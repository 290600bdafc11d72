pub mod NumberLaws
pub mod WordLaws
