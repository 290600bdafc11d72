pub mod ImageRoutes
pub mod Matching
pub mod Readings
