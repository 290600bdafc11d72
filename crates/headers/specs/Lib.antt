pub mod SessionExpires
pub mod Tag
