pub mod ExpiresLaws
pub mod TagLaws
pub mod SegmentLaws
