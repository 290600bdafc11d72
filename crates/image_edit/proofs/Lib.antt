pub mod CutLaws
pub mod ImageCuts
pub mod TargetLaws
pub mod NumbersLaws
pub mod TailLaws
pub mod RoutesLaws
