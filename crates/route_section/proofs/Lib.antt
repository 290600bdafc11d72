pub mod FillingLaws
pub mod SectionLaws
