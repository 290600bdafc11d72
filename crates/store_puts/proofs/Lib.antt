pub mod EarlyLaws
pub mod PutLaws
