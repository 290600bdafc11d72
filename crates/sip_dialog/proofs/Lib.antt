pub mod Called
pub mod Demand3
pub mod PrackCalls
pub mod RSeqCalls
pub mod VerdictCalls
