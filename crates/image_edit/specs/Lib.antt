pub mod Changes
pub mod Maps
pub mod Stands
