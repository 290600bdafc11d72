pub mod Bytes
pub mod Sets
pub mod Spans
