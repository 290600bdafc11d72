pub mod Answers
pub mod Number
pub mod Pieces
pub mod Segments
pub mod Spans
pub mod Text
