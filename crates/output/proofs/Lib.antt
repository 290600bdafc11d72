pub mod ClassLaws
pub mod DecimalLaws
pub mod OutputLaws
