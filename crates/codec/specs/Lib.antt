pub mod Codec
pub mod Exact
pub mod Places
