pub mod Filling
pub mod Measured
pub mod Section
