pub mod AnswerLaws
pub mod MapBits
pub mod PartLaws
pub mod RecordLaws
pub mod RouteLaws
pub mod SectionLaws
pub mod SizeLaws
pub mod UriLaws
