pub mod HoldLaws
pub mod PlaceLaws
pub mod SlotLaws
pub mod WriteLaws
