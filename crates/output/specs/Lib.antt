pub mod Decimal
pub mod Output
