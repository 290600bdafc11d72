pub mod Changes
pub mod NumbersForm
pub mod Record
pub mod Rules
pub mod Store
