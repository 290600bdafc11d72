pub mod Creation
pub mod Matching
pub mod OneImage
pub mod Updates
