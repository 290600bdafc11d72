pub mod ListLaws
pub mod StoreLaws
pub mod SizeLaws
pub mod RoomLaws
