pub mod AnswerLaws
pub mod CodecLaws
pub mod ReadLaws
pub mod SizeLaws
