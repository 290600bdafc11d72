pub mod MapLaws
pub mod NumberLaws
pub mod RecordLaws
pub mod StoreLaws
pub mod WellFormedLaws
