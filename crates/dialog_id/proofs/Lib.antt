pub mod IdLaws
