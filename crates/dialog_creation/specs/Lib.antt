pub mod NewImage
