pub mod NewParts
