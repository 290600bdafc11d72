pub mod RAck
