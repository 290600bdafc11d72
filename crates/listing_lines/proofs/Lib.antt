pub mod HalfLaws
pub mod LineLaws
