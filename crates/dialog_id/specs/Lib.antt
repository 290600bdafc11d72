pub mod DialogId
pub mod Ident
pub mod IdTexts
