-- The form of an entry is exact: every well-formed entry is read back, and what is read is one (specs/Laws.antt). Assumes nothing.
pub use Rattle.rseq_entries.specs.Laws.{form_exact, entry_size_lem, filled}
