pub mod ImageRouteLaws
pub mod MatchLaws
pub mod ReadingLaws
