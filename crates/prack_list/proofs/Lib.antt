pub mod FindLaws
pub mod OpenLaws
pub mod PushLaws
