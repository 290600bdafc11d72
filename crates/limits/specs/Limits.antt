-- The figures of document 01, "Turned back", and of the constants in lib.rs and prack_validator.rs, as fields of one record: every definition that uses a
-- figure is given the record, so that another set of figures is another argument and not another definition.
use Rattle.std.specs.Prelude.{ℕ}

pub record LimitSet : Type 0 where
  -- bytes of a given text or block (01, refusal 1)
  pub text : ℕ
  -- bytes of a store that the listing reads (01, refusal 1)
  pub listed_store : ℕ
  -- bytes of a Call-ID and of a tag in `DialogId::new` (01, "Identifier")
  pub call_id : ℕ
  pub tag : ℕ
  -- a URI's estimate (01, "Contact"; refusal 7)
  pub uri : ℕ
  -- routes of a route set (01, "Routes"; refusal 8). The 50 of a record image (01, "Record image") is a figure of its own,
  -- a numeral in record/specs/Record.antt: it is part of the image's form, and no limit that is asked for.
  pub routes : ℕ
  -- Early records of one Call-ID, and records of a store (refusals 17 and 16)
  pub early_per_call_id : ℕ
  pub dialogs : ℕ
  -- the largest CSeq of a request other than ACK, and the largest step above the remote number (refusals 10 and 12)
  pub cseq : ℕ
  pub cseq_jump : ℕ
  -- a session interval's least and most seconds (refusals 13 and 14)
  pub min_expires : ℕ
  pub max_expires : ℕ
  -- PRACK: entries of a list, seconds between cleanups, seconds that an entry is kept
  pub pending : ℕ
  pub cleanup : ℕ
  pub timeout : ℕ

-- the Rust's figures, and document 01's where the Rust has none
abbrev pub rust_limits : LimitSet
rust_limits = record {
  text = 8192;
  listed_store = 65536;
  call_id = 256;
  tag = 128;
  uri = 512;
  routes = 50;
  early_per_call_id = 100;
  dialogs = 10000;
  cseq = 2147483647;
  cseq_jump = 1000;
  min_expires = 90;
  max_expires = 86400;
  pending = 10;
  cleanup = 300;
  timeout = 300;
}
