-- The count of a lent store's records: its refusals in their order. Assumes nothing.
use Prim.Native.Nat.{ℕ, ◌≤◌, ◌<◌}
use mathlib.Core.Path.{◌≡◌, refl, ap, ◌∙◌}
use mathlib.Core.List.{List}
use lib.ListN.{length, take}
use borrow.Author.Tests.{lt-ltb, le-ltb}
use Rattle.std.specs.Option.{ok_or}
use Rattle.std.specs.Prelude.{Err, None, Option, Some}
use Rattle.limits.specs.Outcome.{or_refuse}
use Rattle.limits.specs.declared.Refusal.TheVariants.{BadStore}
use Rattle.record.specs.Record.{Record}
use Rattle.record.specs.Store.{decode_all}
use Rattle.store.specs.Counting.{records_held, count_answer}
use Rattle.store.specs.Reading.{store_from}

module _ (bytes : List ℕ) (used : ℕ) where
  pub over_used : length bytes < used → Err BadStore ≡ count_answer (records_held bytes used)
  unfolding records_held
  over_used h = rw (lt-ltb (length bytes) used h)

  module _ (h : used ≤ length bytes) where
    held_by : (o : Option (List Record)) → decode_all (take used bytes) ≡ o → count_answer (or_refuse BadStore o) ≡ count_answer (records_held bytes used)
    unfolding records_held
    held_by o e = rw (le-ltb (length bytes) used h, e)

    -- what the reading answers, or 3
    pub as_read : (o : Option ℕ) → o ≡ store_from (decode_all (take used bytes)) → ok_or o BadStore ≡ count_answer (records_held bytes used)
    as_read o e = ap (λ (x : Option ℕ). ok_or x BadStore) e ∙ by (decode_all (take used bytes)) refl
      where
        by : (o : Option (List Record)) → decode_all (take used bytes) ≡ o → ok_or (store_from o) BadStore ≡ count_answer (records_held bytes used)
        by None q = held_by None q
        by (Some rs) q = held_by (Some rs) q
