-- Where the parts lie of what is held for a text: what the search in a store of entries asks of the PRACK store's (specs/Laws.antt). Assumes nothing.
pub use Rattle.prack_entries.specs.Laws.{form, exact, size, filled, lies, lawful}
