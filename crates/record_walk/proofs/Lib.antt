pub mod Images
pub mod Parts
pub mod Tails
pub mod Texts
pub mod Walks
