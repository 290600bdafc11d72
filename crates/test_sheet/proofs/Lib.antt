pub mod RAckExample
pub mod TestSheet
