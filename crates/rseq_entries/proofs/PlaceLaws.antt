-- Where the parts of an entry lie: what the search in a store of entries asks of the RSeq store's (specs/Laws.antt). Assumes nothing.
pub use Rattle.rseq_entries.specs.Laws.{same_key, ends, lies, lawful}
