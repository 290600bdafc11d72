-- The place past so many texts, text by text. Assumes nothing.
use Prim.Native.Nat.{ℕ, zero, suc, ◌+◌, ◌-◌, ◌≤◌, ◌<◌}
use native.Mathlib.Omega.{arith}
use native.Mathlib.Nat.{le_refl}
use mathlib.Core.Path.{◌≡◌, refl, ap, subst, ◌∙◌}
use mathlib.Core.Bool.{true}
use mathlib.Core.List.{List, [], ◌∷◌, ◌++◌, append_assoc}
use lib.ListN.{length, length-append}
use Rattle.codec.specs.Codec.{text, write_all}
use Rattle.record.specs.Record.{uri_text}
use Rattle.record_walk.specs.Walk.{past_text, texts_end}
use Rattle.record_walk.proofs.Parts.{Lies, lies_past, lies_text}

pub texts_none : (n : ℕ) (s : List ℕ) (at : ℕ) → n ≤ 0 → texts_end n s at ≡ at
unfolding texts_end
texts_none zero s at h = refl
texts_none (suc n) s at h = absurd (omega arith)

pub texts_next : (n : ℕ) (s : List ℕ) (at : ℕ) → 0 < n → texts_end n s at ≡ texts_end (n - 1) s (past_text s at true)
unfolding texts_end
texts_next zero s at h = absurd (omega arith)
texts_next (suc n) s at h = let e : suc n - 1 ≡ n = omega arith in rw e

texts_from : (n : ℕ) (s : List ℕ) (at : ℕ) → at ≤ texts_end n s at
unfolding texts_end
texts_from zero s at = le_refl at
texts_from (suc n) s at = omega (arith, texts_from n s (past_text s at true))

pub texts_within : (n : ℕ) (s : List ℕ) (at : ℕ) → 0 < n → past_text s at true ≤ texts_end n s at
unfolding texts_end
texts_within zero s at h = absurd (omega arith)
texts_within (suc n) s at h = texts_from n s (past_text s at true)

-- of texts that lie there it is the place past their bytes
pub texts_lie : (s : List ℕ) (l : List (List ℕ)) (at : ℕ) (t : List ℕ) → Lies s at (write_all uri_text l ++ t) → texts_end (length l) s at ≡ at + length (write_all uri_text l)
unfolding texts_end write_all
texts_lie s [] at t h = omega arith
texts_lie s (x ∷ l) at t h =
    let k : Lies s at (text.write x ++ (write_all uri_text l ++ t)) = subst (Lies s at) (append_assoc (text.write x) (write_all uri_text l) t) h in
    let e = lies_text s at x (write_all uri_text l ++ t) k in
    let m = texts_lie s l (at + length (text.write x)) t (lies_past s at (text.write x) (write_all uri_text l ++ t) k) in
    ap (λ (n : ℕ). texts_end (length l) s n) e ∙ m ∙ omega (arith, length-append (text.write x) (write_all uri_text l))
