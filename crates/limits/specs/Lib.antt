pub mod Limits
pub mod Outcome
pub mod Refusal
pub mod Settings
