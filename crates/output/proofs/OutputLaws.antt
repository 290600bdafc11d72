-- Pieces put one after another into lent bytes. Assumes nothing.
use Prim.Native.Nat.{ℕ, ◌+◌}
use native.Mathlib.Nat.{zero-add}
use mathlib.Core.Path.{◌≡◌, sym, ap, ◌∙◌}
use mathlib.Core.List.{List, ◌++◌, append_assoc}
use lib.ListN.{length, drop, length-append}
use lib.Seq.{take_at, drop-append-add, drop-drop}
use Rattle.std.specs.Prelude.{Err, Ok, Result}
use Rattle.edit.specs.Edit.{put_at, over}
use Rattle.limits.specs.declared.Refusal.{Refusal}
use Rattle.output.specs.Output.{leaves, written_from}

-- the first piece, and one more after the pieces so far
pub put_first : (piece bytes : List ℕ) → put_at 0 piece bytes ≡ over piece bytes
put_first piece bytes = rw (zero-add (length piece))

pub put_next : (w piece bytes : List ℕ) (at : ℕ) → length w ≡ at → put_at at piece (over w bytes) ≡ over (w ++ piece) bytes
put_next w piece bytes at e =
    let k : length w + length piece ≡ length (w ++ piece) = sym (length-append w piece) in
    rw (take_at w (drop (length w) bytes) at e, ← e, drop-append-add w (drop (length w) bytes) (length piece), drop-drop, k, append_assoc)

-- what a refused call answers and leaves, and what an accepted one does
pub kept : (bytes : List ℕ) {o : Result (List ℕ) Refusal} {cause : Refusal} → o ≡ Err cause → (Err cause ≡ written_from o) × (bytes ≡ leaves o bytes)
kept bytes e = (ap written_from (sym e), ap (λ x. leaves x bytes) (sym e))

pub wrote : (bytes : List ℕ) {o : Result (List ℕ) Refusal} {s last : List ℕ} {n : ℕ} → o ≡ Ok s → n ≡ length s → last ≡ over s bytes → (Ok n ≡ written_from o) × (last ≡ leaves o bytes)
wrote bytes e p q = (ap Ok p ∙ ap written_from (sym e), q ∙ ap (λ x. leaves x bytes) (sym e))
