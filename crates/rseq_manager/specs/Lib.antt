pub mod Answers
pub mod RSeq
