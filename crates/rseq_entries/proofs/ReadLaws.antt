-- One entry at a place of bytes: the three texts, then the number; the tests that the code makes pick what is answered. Assumes nothing.
use Prim.Native.Nat.{ℕ, ◌+◌, ◌-◌, ◌<◌}
use native.Mathlib.Omega.{arith}
use mathlib.Core.Path.{◌≡◌}
use mathlib.Core.List.{List}
use lib.ListN.{length, drop}
use borrow.Author.Tests.{lt-ltb, le-ltb}
use Rattle.std.specs.Prelude.{None, Some}
use Rattle.text.specs.declared.Span.{Span}
use Rattle.codec.specs.Codec.{four, text}
use Rattle.codec.proofs.AnswerLaws.{TextGot}
use Rattle.codec.proofs.ReadLaws.{four_none}
use Rattle.rseq_entries.specs.Entries.{entry_form}
use Rattle.rseq_entries.specs.Places.{reading_of}

module _ (s : List ℕ) (at : ℕ) where
  pub no_first : text.read (drop at s) ≡ None → None ≡ reading_of at (entry_form.read (drop at s))
  no_first e = rw e

  module _ {p : Span} (a : TextGot s at p) where
    pub no_second : text.read (drop (p.start + p.length) s) ≡ None → None ≡ reading_of at (entry_form.read (drop at s))
    no_second e = rw (a.got.reads, e)

    module _ {q : Span} (b : TextGot s (p.start + p.length) q) where
      pub no_third : text.read (drop (q.start + q.length) s) ≡ None → None ≡ reading_of at (entry_form.read (drop at s))
      no_third e = rw (a.got.reads, b.got.reads, e)

      module _ {r : Span} (c : TextGot s (q.start + q.length) r) where
        pub no_number : length s - (r.start + r.length) < 4 → None ≡ reading_of at (entry_form.read (drop at s))
        no_number h = rw (a.got.reads, b.got.reads, c.got.reads, four_none s (r.start + r.length) h)

        module _ {n : ℕ} (d : four.read (drop (r.start + r.length) s) ≡ Some (record { value = n; rest = drop (r.start + r.length + 4) s })) where
          pub zero_number : n ≡ 0 → None ≡ reading_of at (entry_form.read (drop at s))
          zero_number h = rw (a.got.reads, b.got.reads, c.got.reads, d, le-ltb 0 n (omega arith))

          pub whole : (n ≡ 0 → ⊥) → Some (record { id = record { call_id = p; local_tag = q; remote_tag = r }; number = n; end = r.start + r.length + 4 }) ≡ reading_of at (entry_form.read (drop at s))
          whole h = rw (a.got.reads, b.got.reads, c.got.reads, d, lt-ltb 0 n (omega arith), c.placed, b.placed, a.placed)
