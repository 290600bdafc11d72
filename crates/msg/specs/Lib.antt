pub mod Block
pub mod Lines
pub mod Status
pub mod Table
