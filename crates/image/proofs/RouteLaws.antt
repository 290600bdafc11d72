-- The loop over a count of routes: the whole reading is what the texts left make of the state reached. Assumes nothing.
use Prim.Native.Nat.{ℕ, suc, ◌+◌, ◌-◌, ◌≤◌, ◌<◌}
use native.Mathlib.Nat.{add-zero, zero-add, sub-zero}
use native.Mathlib.Omega.{arith}
use mathlib.Core.Path.{◌≡◌, refl, sym, ap, ap₂, ◌∙◌}
use mathlib.Core.Bool.{Bool, true, false, ◌&&◌}
use mathlib.Core.List.{List, [], ◌∷◌}
use lib.ListN.{length, drop, get_or}
use lib.Dec.{leb, ltb}
use borrow.Author.Tests.{lt-ltb, le-leb, lt-leb}
use Rattle.std.specs.Prelude.{None, Option, Some}
use Rattle.text.specs.declared.Span.{Span}
use Rattle.codec.specs.Codec.{Reading, in_front, passing, read_all}
use Rattle.record.specs.Record.{uri_text, routes_field, is_filled, bit_of}
use Rattle.image.specs.Places.{texts_size, routes_at}
use Rattle.image.proofs.SizeLaws.{texts_end_lem}
use Rattle.codec.proofs.ReadLaws.{byte_at}
use Rattle.limits.proofs.Laws.{pair_parts}
use Rattle.image.proofs.AnswerLaws.{UriGot}

-- gone on with, where i texts were read before and the next would begin at `end`
abbrev pub resume : ℕ → ℕ → Option (Reading (List (List ℕ))) → Option (ℕ × ℕ)
resume i end None = None
resume i end (Some x) = Some (i + length x.value, end + texts_size x.value)

one_more : (i end : ℕ) (t : List ℕ) (o : Option (Reading (List (List ℕ)))) → resume i end (in_front t o) ≡ resume (i + 1) (end + 2 + length t) o
unfolding texts_size
one_more i end t None = refl
one_more i end t (Some x) =
    let a : i + suc (length x.value) ≡ i + 1 + length x.value = omega arith in
    let b : end + (2 + length t + texts_size x.value) ≡ end + 2 + length t + texts_size x.value = omega arith in
    ap₂ (λ (x y : ℕ). Some (x, y)) a b

module _ (s : List ℕ) (i count end : ℕ) where
  pub turn : i < count → {p : Span} {secure : Bool} → UriGot s end p secure → resume i end (read_all uri_text (count - i) (drop end s)) ≡ resume (i + 1) (p.start + p.length) (read_all uri_text (count - (i + 1)) (drop (p.start + p.length) s))
  unfolding read_all
  turn h {p} g =
      let k : count - i ≡ suc (count - (i + 1)) = omega arith in
      let e : end + 2 + length g.value ≡ p.start + p.length = ap (λ (x : Span). x.start + x.length) (sym (pair_parts g.placed).0) in
      rw (k, g.got.reads) (one_more i end g.value (read_all uri_text (count - (i + 1)) (drop (p.start + p.length) s)) ∙ ap (λ (n : ℕ). resume (i + 1) n (read_all uri_text (count - (i + 1)) (drop (p.start + p.length) s))) e)

  pub stop : i < count → uri_text.read (drop end s) ≡ None → resume i end (read_all uri_text (count - i) (drop end s)) ≡ None
  unfolding read_all
  stop h e =
      let k : count - i ≡ suc (count - (i + 1)) = omega arith in
      rw (k, e)

  pub done : i ≡ count → resume i end (read_all uri_text (count - i) (drop end s)) ≡ Some (count, end)
  unfolding read_all texts_size
  done e =
      let k : count - i ≡ 0 = omega arith in
      rw (k, add-zero i, add-zero end, e)

filled : (l : List (List ℕ)) → 0 < length l → bit_of (is_filled l) ≡ 1
filled [] h = absurd (omega arith)
filled (t ∷ l) h = refl

module _ (s : List ℕ) (at : ℕ) where
  module _ (h : at < length s) {count : ℕ} (c : count ≡ get_or s at 0) where
    abbrev test : List (List ℕ) → Bool
    test l = ltb 0 (length l) && leb (length l) 50

    reads : routes_at at ((routes_field true).read (drop at s)) ≡ routes_at at (passing test (read_all uri_text count (drop (at + 1) s)))
    reads = rw (byte_at s at h, c)

    -- the test looks at the count alone
    pub refused : (ltb 0 count && leb count 50) ≡ false → None ≡ routes_at at ((routes_field true).read (drop at s))
    refused u = by (read_all uri_text count (drop (at + 1) s)) refl ∙ sym reads
      where
        by : (o : Option (Reading (List (List ℕ)))) → read_all uri_text count (drop (at + 1) s) ≡ o → None ≡ routes_at at (passing test o)
        by None e = refl
        by (Some x) e =
            let l : length x.value ≡ count = (texts_end_lem count (drop (at + 1) s) x e).1.1 in
            let k : test x.value ≡ false = rw l u in
            rw k

    pub no_count : count ≡ 0 → None ≡ routes_at at ((routes_field true).read (drop at s))
    no_count z = refused (rw z)

    pub many : 50 < count → None ≡ routes_at at ((routes_field true).read (drop at s))
    many z = refused (rw (lt-ltb 0 count (omega arith), lt-leb count 50 z))

    pub start : 0 < count → count ≤ 50 → routes_at at ((routes_field true).read (drop at s)) ≡ resume 0 (at + 1) (read_all uri_text (count - 0) (drop (at + 1) s))
    start y z = reads ∙ rw sub-zero (by (read_all uri_text count (drop (at + 1) s)) refl)
      where
        by : (o : Option (Reading (List (List ℕ)))) → read_all uri_text count (drop (at + 1) s) ≡ o → routes_at at (passing test o) ≡ resume 0 (at + 1) o
        by None e = refl
        by (Some x) e =
            let l : length x.value ≡ count = (texts_end_lem count (drop (at + 1) s) x e).1.1 in
            let k : test x.value ≡ true = rw (l, lt-ltb 0 count y, le-leb count 50 z) in
            let n : bit_of (is_filled x.value) ≡ 1 = filled x.value (omega arith) in
            rw k (ap₂ (λ (x y : ℕ). Some (x, y)) (sym (zero-add _)) (omega arith))
