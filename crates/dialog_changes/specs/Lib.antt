pub mod ImageUpdates
