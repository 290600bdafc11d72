pub mod CountLaws
pub mod ElementLaws
pub mod PartLaws
pub mod ScanLaws
pub mod WalkLaws
