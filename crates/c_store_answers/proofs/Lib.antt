pub mod ReturnLaws
pub mod ValueLaws
