-- A new entry put in among the used bytes: its texts and its number one after another, and whether there is room. Assumes nothing.
use Prim.Native.Nat.{ℕ, ◌+◌, ◌-◌, ◌≤◌, ◌<◌}
use native.Mathlib.Omega.{arith}
use mathlib.Core.Path.{◌≡◌, refl, sym, ap, ◌∙◌}
use mathlib.Core.List.{List, ◌++◌}
use lib.ListN.{length, take, drop, length-append, length-drop}
use lib.Seq.{length-take-le}
use borrow.Author.Tests.{lt-ltb, le-ltb}
use Rattle.std.specs.Prelude.{Err, Ok, Result}
use Rattle.limits.specs.Outcome.{cause_if, refuse_by}
use Rattle.limits.specs.declared.Refusal.{Refusal}
use Rattle.limits.specs.declared.Refusal.TheVariants.{NoRoom}
use Rattle.edit.specs.Edit.{put_at, spliced, tail_moved}
use Rattle.edit.proofs.EditLaws.{Wrote, wrote_then, wrote_three, replace_law}
use Rattle.output.specs.Output.{fitted, leaves}
use Rattle.codec.specs.Codec.{text, four}
use Rattle.dialog_id.specs.Ident.{Ident}
use Rattle.rseq_entries.specs.Entries.{entry_form}
use Rattle.rseq_manager.specs.RSeq.{numbered}
use Rattle.rseq_manager.specs.Answers.{numbered_from}

-- three texts and a number, each written where the one before it ended
pub wrote_entry : (at : ℕ) (bytes : List ℕ) (i : Ident) (n : ℕ) {a b c : ℕ} {x y z w : List ℕ} → at ≤ length bytes → a ≤ length x
    → Wrote at (text.write i.call_id) bytes a x → Wrote a (text.write i.local_tag) x b y → Wrote b (text.write i.remote_tag) y c z → w ≡ put_at c (four.write n) z
    → w ≡ put_at at (entry_form.write (numbered i n)) bytes
wrote_entry at bytes i n {a} {b} {c} {x} h k p q r e =
    (wrote_then at (text.write i.call_id) (text.write i.local_tag ++ (text.write i.remote_tag ++ four.write n)) bytes h p
    (wrote_three a (text.write i.local_tag) (text.write i.remote_tag) (four.write n) x {o = c + 4} k q r (refl, e))).1

module _ (bytes piece : List ℕ) (used at : ℕ) (a : at ≤ used) (h : used ≤ length bytes) where
  -- the used bytes with the piece among them
  abbrev pub grown : List ℕ
  grown = spliced at 0 piece (take used bytes)

  grown_length : length grown ≡ used + length piece
  grown_length =
      omega (arith, length-append (take at (take used bytes)) (piece ++ drop (at + 0) (take used bytes)), length-append piece (drop (at + 0) (take used bytes)), length-take-le used bytes h, length-take-le at (take used bytes) (omega (arith, a, length-take-le used bytes h)), length-drop (at + 0) (take used bytes), a)

  full : length bytes - used < length piece → fitted (length bytes) grown ≡ Err NoRoom
  full q = ap (λ t. refuse_by (cause_if t NoRoom) (Ok grown)) (lt-ltb (length bytes) (length grown) (omega (arith, grown_length, h, q)))

  fits : length piece ≤ length bytes - used → fitted (length bytes) grown ≡ Ok grown
  fits q = ap (λ t. refuse_by (cause_if t NoRoom) (Ok grown)) (le-ltb (length bytes) (length grown) (omega (arith, grown_length, h, q)))

  -- what is answered, and what the bytes then are
  abbrev pub Inserted : ℕ → Result (ℕ × ℕ) Refusal → List ℕ → Type 0
  Inserted m r after = (r ≡ numbered_from m (fitted (length bytes) grown)) × (after ≡ leaves (fitted (length bytes) grown) bytes)

  -- 18
  pub no_room : (m : ℕ) → length bytes - used < length piece → Inserted m (Err NoRoom) bytes
  no_room m q = (sym (ap (numbered_from m) (full q)), sym (ap (λ o. leaves o bytes) (full q)))

  -- the tail moved, and the piece put before it
  pub inserted : (m : ℕ) {size n : ℕ} {moved after : List ℕ} → size ≡ length piece → size ≤ length bytes - used → n ≡ used - 0 + size → moved ≡ tail_moved used at 0 size bytes → after ≡ put_at at piece moved
      → Inserted m (Ok (m, n)) after
  inserted m {size} {n} {moved} {after} s q l t p =
      let f : fitted (length bytes) grown ≡ Ok grown = fits (omega (arith, s, q)) in (
        ap (λ (k : ℕ). Ok (m, k)) (omega (arith, l, s, grown_length)) ∙ sym (ap (numbered_from m) f),
        p ∙ ap (put_at at piece) (t ∙ ap (λ (k : ℕ). tail_moved used at 0 k bytes) s) ∙ replace_law bytes piece used at 0 (omega (arith, a)) h (omega (arith, s, q, h)) ∙ sym (ap (λ o. leaves o bytes) f),
      )
