-- Used bytes with a piece in place of some of them: whether there is room, and what is answered. Assumes nothing.
use Prim.Native.Nat.{ℕ, ◌+◌, ◌-◌, ◌≤◌}
use native.Mathlib.Omega.{arith}
use mathlib.Core.Path.{◌≡◌, refl, sym, ap, ◌∙◌}
use mathlib.Core.List.{List, ◌++◌}
use lib.ListN.{length, take, drop, length-append, length-drop}
use lib.Seq.{length-take-le}
use borrow.Author.Tests.{le-ltb}
use Rattle.std.specs.Prelude.{Ok, Result}
use Rattle.limits.specs.Outcome.{cause_if, refuse_by}
use Rattle.limits.specs.declared.Refusal.{Refusal}
use Rattle.limits.specs.declared.Refusal.TheVariants.{NoRoom}
use Rattle.edit.specs.Edit.{over, put_at, spliced, tail_moved}
use Rattle.edit.proofs.EditLaws.{Wrote, wrote_then, replace_law}
use Rattle.output.specs.Output.{fitted, leaves, written_from}
use Rattle.codec.specs.Codec.{text}

-- what is answered for a list that is to be written, and what the bytes then are
abbrev pub Answered : List ℕ → List ℕ → Result ℕ Refusal → List ℕ → Type 0
Answered bytes new r after = (r ≡ written_from (fitted (length bytes) new)) × (after ≡ leaves (fitted (length bytes) new) bytes)

module _ (bytes piece : List ℕ) (used at old : ℕ) (a : at + old ≤ used) (h : used ≤ length bytes) where
  -- the used bytes with the piece in place of the old ones
  abbrev changed : List ℕ
  changed = spliced at old piece (take used bytes)

  changed_length : length changed ≡ used - old + length piece
  changed_length =
      omega (arith, length-append (take at (take used bytes)) (piece ++ drop (at + old) (take used bytes)), length-append piece (drop (at + old) (take used bytes)), length-take-le used bytes h, length-take-le at (take used bytes) (omega (arith, a, length-take-le used bytes h)), length-drop (at + old) (take used bytes), a)

  -- written
  pub replaced : length piece ≤ length bytes - (used - old) → {n : ℕ} {after : List ℕ} → n ≡ used - old + length piece → after ≡ over changed bytes → Answered bytes changed (Ok n) after
  replaced q {n} {after} l e =
      let f : fitted (length bytes) changed ≡ Ok changed = ap (λ t. refuse_by (cause_if t NoRoom) (Ok changed)) (le-ltb (length bytes) (length changed) (omega (arith, changed_length, a, h, q))) in
      (ap Ok (l ∙ sym changed_length) ∙ sym (ap written_from f), e ∙ sym (ap (λ o. leaves o bytes) f))

-- a text with its length bytes and a body behind it
pub piece_size : (id body : List ℕ) → length (text.write id ++ body) ≡ 2 + length id + length body
piece_size id body = omega (arith, length-append (text.write id) body)

-- the tail moved, and text and body put before it
pub inserted : (id body bytes : List ℕ) (used at : ℕ) → at ≤ used → used ≤ length bytes → {size n m : ℕ} {moved x after : List ℕ} → size ≡ 2 + length id + length body → size ≤ length bytes - used
    → n ≡ used - 0 + size → moved ≡ tail_moved used at 0 size bytes → length moved ≡ length bytes → Wrote at (text.write id) moved m x → after ≡ put_at m body x
    → Answered bytes (spliced at 0 (text.write id ++ body) (take used bytes)) (Ok n) after
inserted id body bytes used at a h {size} {n} {m} {moved} {x} {after} s q l t k w e =
    let piece : List ℕ = text.write id ++ body in
    let long : size ≡ length piece = s ∙ sym (piece_size id body) in
    let put : after ≡ put_at at piece moved = (wrote_then at (text.write id) body moved (omega (arith, a, h, k)) w (refl, e)).1 in
    replaced bytes piece used at 0 (omega (arith, a)) h (omega (arith, long, q)) (omega (arith, l, long))
    (put ∙ ap (put_at at piece) (t ∙ ap (λ (i : ℕ). tail_moved used at 0 i bytes) long) ∙ replace_law bytes piece used at 0 (omega (arith, a)) h (omega (arith, long, q, h)))
