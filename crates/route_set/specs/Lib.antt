pub mod Cuts
pub mod Elements
pub mod Parts
pub mod Routes
pub mod Scan
