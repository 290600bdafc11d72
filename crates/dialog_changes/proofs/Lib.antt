pub mod ImageUpdateLaws
pub mod PlaceLaws
