-- The text that is cut out of a header value: where it stands, and that its bytes are those of the value. Assumes nothing.
use Prim.Native.Nat.{ℕ, ◌+◌, ◌-◌, ◌≤◌, ◌<◌}
use native.Mathlib.Omega.{arith}
use mathlib.Core.Path.{◌≡◌, refl, sym, ap, ◌∙◌}
use mathlib.Core.Bool.{Bool, true, false}
use mathlib.Core.List.{List}
use lib.ListN.{length, take, drop, length-take}
use lib.Seq.{take-take, drop-drop}
use borrow.Author.Tests.{lt-ltb, le-ltb, ltb-true, ltb-false}
use Rattle.std.specs.Prelude.{None, Some}
use Rattle.std.proofs.lemmas.List.{take_rest}
use Rattle.text.specs.Text.{span, other, blanks, trimmed, trimmed_span, Piece}
use Rattle.text.specs.Spans.{part_in}
use Rattle.text.specs.declared.Span.{Span}
use Rattle.text.proofs.Runs.{span_le}
use Rattle.text.proofs.Trimming.{drop_take, trimmed_fits, trimmed_is, trimmed_at, trimmed_part}
use Rattle.uri.specs.SipUri.{has}
use Rattle.text.specs.Text.{trimmed_piece}
use Rattle.uri.specs.HeaderUri.{in_brackets, cut_uri, uri_text}

-- ---- parts of the trimmed value are parts of the value

front : (v : List ℕ) (n : ℕ) → n ≤ length (trimmed v) → take n (trimmed v) ≡ take n (drop (blanks v) v)
front v n h = rw (← trimmed_is v) (take-take n (length (trimmed v)) (drop (blanks v) v) h)

behind : (v : List ℕ) (k : ℕ) → drop k (trimmed v) ≡ take (length (trimmed v) - k) (drop (blanks v + k) v)
behind v k = ap (drop k) (sym (trimmed_is v)) ∙ drop_take k (length (trimmed v)) (drop (blanks v) v) ∙ ap (take (length (trimmed v) - k)) (drop-drop k (blanks v) v)

-- no `<`: up to the first `;`
plain_cut : (v : List ℕ) (n m : ℕ) → n ≡ span (other 60) (trimmed v) → length (trimmed v) ≤ n → m ≡ span (other 59) (trimmed v)
    → uri_text v ≡ Some (trimmed_piece (blanks v) (take m (drop (blanks v) v)))
unfolding cut_uri
plain_cut v n m hn h hm =
    let k : m ≤ length (trimmed v) = rw hm (span_le (other 59) (trimmed v)) in
    rw (← hn, le-ltb n (length (trimmed v)) h, ← hm, front v m k)

-- a `<`: what stands behind it
bracket_cut : (v : List ℕ) (n : ℕ) → n ≡ span (other 60) (trimmed v) → n < length (trimmed v)
    → uri_text v ≡ in_brackets (blanks v + n + 1) (take (length (trimmed v) - (n + 1)) (drop (blanks v + n + 1) v))
unfolding cut_uri
bracket_cut v n hn h =
    let j : blanks v + (n + 1) ≡ blanks v + n + 1 = omega arith in
    rw (← hn, lt-ltb n (length (trimmed v)) h, behind v (n + 1), j)

-- ---- the code's steps

-- n bytes stand before the first `>`
module _ (at : ℕ) (s : List ℕ) (n : ℕ) (hn : n ≡ span (other 62) s) where
  pub unclosed : length s ≤ n → in_brackets at s ≡ None
  unfolding in_brackets
  unclosed h = rw (← hn, le-ltb n (length s) h)

  pub closed : n < length s → in_brackets at s ≡ Some (trimmed_piece at (take n s))
  unfolding in_brackets
  closed h = rw (← hn, lt-ltb n (length s) h)

-- n bytes stand before the first `<`
module _ (at : ℕ) (t : List ℕ) (n : ℕ) (hn : n ≡ span (other 60) t) where
  bracket_of : n < length t → cut_uri at t ≡ in_brackets (at + n + 1) (drop (n + 1) t)
  unfolding cut_uri
  bracket_of h = rw (← hn, lt-ltb n (length t) h)

  plain_of : (m : ℕ) → length t ≤ n → m ≡ span (other 59) t → cut_uri at t ≡ Some (trimmed_piece at (take m t))
  unfolding cut_uri
  plain_of m h hm = rw (← hn, le-ltb n (length t) h, ← hm)

-- p is where the trimmed value stands, and t its bytes
module _ (v : List ℕ) (p : Span) (hp : p ≡ trimmed_span v) (t : List ℕ) (ht : t ≡ part_in v p) where
  pub whole : t ≡ trimmed v
  whole = rw (ht, hp) (trimmed_is v)

  same_cut : uri_text v ≡ cut_uri p.start t
  same_cut = rw (whole, hp)

  -- n bytes stand before the first `<`
  module _ (n : ℕ) (hn : n ≡ span (other 60) t) where
    pub bracket : n < length t → in_brackets (p.start + n + 1) (take (length t - (n + 1)) (drop (n + 1) t)) ≡ uri_text v
    bracket h = rw (take_rest t (n + 1)) (sym (same_cut ∙ bracket_of p.start t n hn h))

    -- there is none, and m bytes stand before the first `;`
    pub plain : (m : ℕ) → length t ≤ n → m ≡ span (other 59) t → uri_text v ≡ Some (trimmed_piece p.start (take m t))
    plain m h hm = same_cut ∙ plain_of p.start t n hn m h hm

-- ---- where the text stands

-- the bytes of the piece are those of v at its place
pub record Stands (v : List ℕ) (p : Piece) : Type 0 where
  pub fits : p.place + length p.text ≤ length v
  pub bytes : take (length p.text) (drop p.place v) ≡ p.text

trimmed_stands : (v : List ℕ) (at n : ℕ) → at ≤ length v → Stands v (trimmed_piece at (take n (drop at v)))
trimmed_stands v at n h = record { fits = trimmed_at v at n h; bytes = trimmed_part v at n }

in_stands : (v : List ℕ) (at k : ℕ) {p : Piece} → at ≤ length v → in_brackets at (take k (drop at v)) ≡ Some p → Stands v p
in_stands v at k {p} h e = by (has 62 (take k (drop at v))) refl
  where
    n : ℕ
    n = span (other 62) (take k (drop at v))

    by : (t : Bool) → has 62 (take k (drop at v)) ≡ t → Stands v p
    by true g =
        let l : n < length (take k (drop at v)) = ltb-true _ _ g in
        let q : trimmed_piece at (take n (take k (drop at v))) ≡ p = cc (closed at (take k (drop at v)) n refl l) in
        let r : take n (take k (drop at v)) ≡ take n (drop at v) = take-take n k (drop at v) (omega (arith, length-take k (drop at v))) in
        rw (← q, r) (trimmed_stands v at n h)
    by false g = absurd (let z : ◌≡◌ {A = ℕ} 0 1 = cc (unclosed at (take k (drop at v)) n refl (ltb-false _ _ g)) in omega arith)

-- the text that is read as the URI stands in the value
pub text_stands : (v : List ℕ) {p : Piece} → uri_text v ≡ Some p → Stands v p
text_stands v {p} e = by (has 60 (trimmed v)) refl
  where
    n : ℕ
    n = span (other 60) (trimmed v)

    m : ℕ
    m = span (other 59) (trimmed v)

    by : (t : Bool) → has 60 (trimmed v) ≡ t → Stands v p
    by true g =
        let h : n < length (trimmed v) = ltb-true _ _ g in
        in_stands v (blanks v + n + 1) (length (trimmed v) - (n + 1)) (omega (arith, trimmed_fits v)) (sym (bracket_cut v n refl h) ∙ e)
    by false g =
        let q : trimmed_piece (blanks v) (take m (drop (blanks v) v)) ≡ p = cc (plain_cut v n m refl (ltb-false _ _ g) refl) in
        rw (← q) (trimmed_stands v (blanks v) m (omega (arith, trimmed_fits v)))
