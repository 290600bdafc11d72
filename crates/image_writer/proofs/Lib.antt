pub mod FieldLaws
pub mod ImageLaws
pub mod LieLaws
