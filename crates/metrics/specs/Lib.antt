pub mod Metrics
