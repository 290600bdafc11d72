pub mod BodyLaws
pub mod BytesLaws
pub mod LayoutLaws
pub mod ReadLaws
