pub mod RAckLaws
pub mod RoundTrip
