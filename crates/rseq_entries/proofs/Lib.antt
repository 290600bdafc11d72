pub mod FormLaws
pub mod OrderLaws
pub mod PlaceLaws
pub mod ReadLaws
pub mod SlotLaws
