pub mod AnswerLaws
pub mod OtherCallees
pub mod Settled
pub mod Units
pub mod WhoSets
