-- What lies in bytes from a place on: a step past its first part, and past a text. Assumes nothing.
use Prim.Native.Nat.{ℕ, ◌+◌, ◌/◌, ◌%◌, ◌≤◌}
use native.Mathlib.Omega.{arith}
use mathlib.Core.Path.{◌≡◌, sym, ap, ◌∙◌}
use mathlib.Core.Bool.{Bool, true, false}
use mathlib.Core.List.{List, ◌∷◌, ◌++◌}
use lib.ListN.{length, drop, get_or, length-append, length-drop}
use lib.Seq.{get_or-drop, drop-drop, drop-append_seam}
use Rattle.codec.specs.Codec.{text}
use Rattle.record.specs.Record.{id_text}
use Rattle.record_walk.specs.Walk.{two_at, past_text}

-- the bytes from a place on
pub record Lies (s : List ℕ) (at : ℕ) (t : List ℕ) : Type 0 where
  pub here : at ≤ length s
  pub are : drop at s ≡ t

module _ (s : List ℕ) where
  pub lies_length : (at : ℕ) (t : List ℕ) → Lies s at t → at + length t ≡ length s
  lies_length at t l = omega (arith, l.here, length-drop at s, ap length l.are)

  pub lies_past : (at : ℕ) (w t : List ℕ) → Lies s at (w ++ t) → Lies s (at + length w) t
  lies_past at w t l = record {
    here = omega (arith, lies_length at (w ++ t) l, length-append w t);
    are = sym (drop-drop (length w) at s) ∙ ap (drop (length w)) l.are ∙ drop-append_seam w t;
  }

  pub lies_get_or : (at : ℕ) (t : List ℕ) → Lies s at t → (i : ℕ) → get_or s (at + i) 0 ≡ get_or t i 0
  lies_get_or at t l i = sym (get_or-drop at s i 0) ∙ ap (λ (x : List ℕ). get_or x i 0) l.are

  -- two bytes that are a number's
  pub lies_two : (at n : ℕ) (t : List ℕ) → Lies s at (n / 256 ∷ n % 256 ∷ t) → two_at s at ≡ n
  lies_two at n t l =
      let z : at + 0 ≡ at = omega arith in
      let a : get_or s at 0 ≡ n / 256 = ap (λ (i : ℕ). get_or s i 0) (sym z) ∙ lies_get_or at (n / 256 ∷ n % 256 ∷ t) l 0 in
      let b : get_or s (at + 1) 0 ≡ n % 256 = lies_get_or at (n / 256 ∷ n % 256 ∷ t) l 1 in
      rw (a, b) (omega arith)

  -- the place past a text
  pub lies_text : (at : ℕ) (x t : List ℕ) → Lies s at (text.write x ++ t) → past_text s at true ≡ at + length (text.write x)
  lies_text at x t l = omega (arith, lies_two at (length x) (x ++ t) l)

  -- the same of a text that may stand or not
  pub lies_id : (at : ℕ) (flag : Bool) (x t : List ℕ) → Lies s at ((id_text flag).write x ++ t) → past_text s at flag ≡ at + length ((id_text flag).write x)
  lies_id at true x t l = lies_text at x t l
  lies_id at false x t l = omega arith
