pub mod Body
pub mod Layout
pub mod Lists
pub mod Places
