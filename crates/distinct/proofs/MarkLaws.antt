-- What a mark changes, and where a key's eight bytes lie. Assumes nothing.
use Prim.Native.Nat.{ℕ, zero, suc, ◌+◌, ◌-◌, ◌/◌, ◌%◌, ◌≤◌, ◌<◌}
use native.Mathlib.Omega.{arith}
use native.Mathlib.Numerals.{add-one}
use mathlib.Core.Path.{◌≡◌, refl, sym, ap, subst, ◌∙◌}
use mathlib.Core.Bool.{Bool, true, false}
use mathlib.Core.List.{List, [], ◌∷◌}
use lib.Dec.{eqb}
use lib.ListN.{length, take, drop, set, get_or, length-set}
use lib.Seq.{take-suc, get_or-take}
use borrow.Author.Tests.{eqb-true, eqb-false}
use Rattle.std.proofs.lemmas.Grind.{get_or-set_at}
use Rattle.std.proofs.lemmas.List.{get_or-drop, get_or-set_other}
use Rattle.text.specs.Text.{equal}
use Rattle.record.specs.Record.{bit_of}
use Rattle.codec.proofs.CodecLaws.{Bytes}
use Rattle.record_walk.specs.Walk.{At}
use Rattle.distinct.specs.Keys.{key_at}
use Rattle.distinct.specs.Marks.{Has, Kept, Stands, eight_at, head_of}
use Rattle.distinct.specs.Sorting.{tally}
use Rattle.distinct.proofs.Ascents.{tally_append}
use Rattle.distinct.proofs.KeysAt.{key_bytes}
use Rattle.text.proofs.Sames.{equal_is}

-- ---- the slots of a run

module _ (s ps ms : List ℕ) (i : ℕ) (l : i < length ps) (room : 0 < length ms) (h : ℕ) (e : h ≡ head_of (key_at s (get_or ps i 0))) (w : ℕ)
    (m : Kept (get_or ms (h % length ms) 0) (h / length ms % 1023 + 1) w) where
  abbrev more : List ℕ
  more = set ms (h % length ms) w

  slot_in : h % length ms < length ms
  slot_in = omega arith

  -- what stood stands
  stood : (k : List ℕ) → Stands ms k → Stands more k
  unfolding Stands
  stood k x = by (eqb (head_of k % length ms) (h % length ms)) refl
    where
      same : (n : ℕ) → n ≡ length ms → Has (get_or more (head_of k % length ms) 0) (head_of k / length ms % 1023 + 1) → Has (get_or more (head_of k % n) 0) (head_of k / n % 1023 + 1)
      same n q y = subst (λ (n : ℕ). Has (get_or more (head_of k % n) 0) (head_of k / n % 1023 + 1)) (sym q) y

      by : (t : Bool) → eqb (head_of k % length ms) (h % length ms) ≡ t → Stands more k
      by true t =
          let q = eqb-true (head_of k % length ms) (h % length ms) t in
          let g = get_or-set_at ms (h % length ms) (head_of k % length ms) w 0 q slot_in in
          let y = m.kept (head_of k / length ms % 1023 + 1) (omega arith) (subst (λ (j : ℕ). Has (get_or ms j 0) (head_of k / length ms % 1023 + 1)) q x) in
          same (length more) (length-set ms (h % length ms) w) (rw g y)
      by false t =
          let g = get_or-set_other ms (h % length ms) (head_of k % length ms) w 0 (eqb-false (head_of k % length ms) (h % length ms) t) in
          same (length more) (length-set ms (h % length ms) w) (rw g x)

  -- the new one stands
  stands : (k : List ℕ) → key_at s (get_or ps i 0) ≡ k → Stands more k
  unfolding Stands
  stands k q =
      let g = get_or-set_at ms (h % length ms) (h % length ms) w 0 refl slot_in in
      let n = length-set ms (h % length ms) w in
      let a : head_of k ≡ h = ap head_of (sym q) ∙ sym e in
      rw (n, a, g) m.new

  pub mark_more : ((k : List ℕ) → 1 ≤ tally s k (take i ps) → Stands ms k) → (k : List ℕ) → 1 ≤ tally s k (take (i + 1) ps) → Stands more k
  unfolding tally
  mark_more v k x = by (equal (key_at s (get_or ps i 0)) k) refl
    where
      longer : tally s k (take (i + 1) ps) ≡ tally s k (take i ps) + (bit_of (equal (key_at s (get_or ps i 0)) k) + 0)
      longer = rw (add-one i, take-suc ps i 0 l) (tally_append s k (take i ps) (get_or ps i 0 ∷ []))

      by : (t : Bool) → equal (key_at s (get_or ps i 0)) k ≡ t → Stands more k
      by true t = stands k (equal_is (key_at s (get_or ps i 0)) k t)
      by false t = stood k (v k (let q = longer in let z : bit_of (equal (key_at s (get_or ps i 0)) k) ≡ 0 = rw t in omega arith))

-- ---- a key's bytes

module _ (s : List ℕ) (p : ℕ) (b : Bytes s) (x : At s p) (e : ℕ) (q : e ≡ p + 1 + length (key_at s p)) where
  -- past the flags they are those at the place
  key_byte : (i : ℕ) → 1 ≤ i → i < length (key_at s p) → get_or (key_at s p) i 0 ≡ get_or s (p + 1 + i) 0
  key_byte zero h l = absurd (omega arith)
  key_byte (suc j) h l =
      let k = key_bytes s p b x e q in
      let m : j < e - (p + 2) = omega arith in
      let n : p + 2 + j ≡ p + 1 + suc j = omega arith in
      ap (λ (t : List ℕ). get_or t (suc j) 0) k ∙ get_or-take (e - (p + 2)) (drop (p + 2) s) j 0 m ∙ get_or-drop (p + 2) s j 0 ∙ ap (λ (n : ℕ). get_or s n 0) n

  pub key_eight : (i a : ℕ) → 1 ≤ i → i + 8 ≤ length (key_at s p) → a ≡ p + 1 + i → eight_at s a ≡ eight_at (key_at s p) i
  key_eight i a h l r =
      let k = key_at s p in
      let byte : (n j : ℕ) → n < 8 → a + n ≡ j → get_or s j 0 ≡ get_or k (i + n) 0 = λ n j u v. let w : j ≡ p + 1 + (i + n) = omega arith in ap (λ (m : ℕ). get_or s m 0) w ∙ sym (key_byte (i + n) (omega arith) (omega arith)) in
      let b0 : get_or s a 0 ≡ get_or k i 0 = ap (λ (m : ℕ). get_or s m 0) r ∙ sym (key_byte i h (omega arith)) in
      rw (b0, byte 1 (a + 1) (omega arith) refl, byte 2 (a + 2) (omega arith) refl, byte 3 (a + 3) (omega arith) refl, byte 4 (a + 4) (omega arith) refl, byte 5 (a + 5) (omega arith) refl, byte 6 (a + 6) (omega arith) refl, byte 7 (a + 7) (omega arith) refl)
