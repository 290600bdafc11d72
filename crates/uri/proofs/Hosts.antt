-- The host that stands first: a name up to a byte that ends it, or an address in brackets. Assumes nothing.
use Prim.Native.Nat.{ℕ, zero, suc, ◌+◌, ◌-◌, ◌≤◌, ◌<◌}
use native.Mathlib.Nat.{le_refl}
use native.Mathlib.Numerals.{add-one}
use native.Mathlib.Omega.{arith}
use mathlib.Core.Path.{◌≡◌, refl, sym, ap, ◌∙◌}
use mathlib.Core.Bool.{Bool, true, false, cond, not, ◌&&◌, and-false, true≢false}
use mathlib.Core.List.{List, [], ◌∷◌}
use lib.ListN.{length, take, drop, get_or, length-take, drop_of_length-le}
use lib.Seq.{take_all, take-take, length-take-le, get_or-take, drop-cons}
use lib.Dec.{eqb, ltb}
use borrow.Author.Tests.{lt-ltb, le-ltb, ltb-true, eqb-true, not-true, not-false}
use Rattle.std.proofs.lemmas.Bool.{and_parts}
use Rattle.std.specs.Prelude.{None, Some}
use Rattle.text.specs.Text.{span, all, other}
use Rattle.text.specs.Number.{non_empty}
use Rattle.text.proofs.Runs.{span_le}
use Rattle.text.proofs.Trimming.{drop_take}
use Rattle.uri_bytes.specs.Bytes.{is_uri, is_host, is_address, ends_host}
use Rattle.uri_bytes.proofs.Bytes.{host_uri, host_goes_on, address_uri}
use Rattle.uri_bytes.proofs.Spans.{span_passes, span_ends, span_until, span_longer, all_before, all_fails, all_split, all_weaker}
use Rattle.uri.specs.SipUri.{begins, host_text, is_bracketed, is_host_text}
use Rattle.uri.specs.Steps.{host_from}

-- ---- first bytes

-- the first bytes, as many as there are
pub take_own : (k : ℕ) (l : List ℕ) → take (length (take k l)) l ≡ take k l
take_own zero l = refl
take_own (suc k) [] = refl
take_own (suc k) (b ∷ l) = ap (λ (t : List ℕ). b ∷ t) (take_own k l)

-- whether a text begins with x is told by its first byte
pub begins_first : (x : ℕ) (s : List ℕ) → 0 < length s → begins x s ≡ eqb (get_or s 0 0) x
begins_first x [] h = absurd (omega arith)
begins_first x (b ∷ s) h = refl

begins_some : (x : ℕ) (s : List ℕ) → begins x s ≡ true → 0 < length s
begins_some x [] e = absurd (let z : ◌≡◌ {A = ℕ} 0 1 = cc in omega arith)
begins_some x (b ∷ s) e = omega arith

-- its first bytes begin as it does
begins_take : (x n : ℕ) (s : List ℕ) → begins x (take (suc n) s) ≡ begins x s
begins_take x n [] = refl
begins_take x n (b ∷ s) = refl

begins_none : (x n : ℕ) (s : List ℕ) → begins x s ≡ false → begins x (take n s) ≡ false
begins_none x zero s e = refl
begins_none x (suc n) s e = begins_take x n s ∙ e

filled : (s : List ℕ) → 0 < length s → non_empty s ≡ true
filled [] h = absurd (omega arith)
filled (b ∷ s) h = refl

-- ---- a name

pub no_host : (s : List ℕ) → length s ≡ 0 → None ≡ host_from (host_text s)
unfolding host_text is_host_text span
no_host [] h = refl
no_host (b ∷ s) h = absurd (omega arith)

-- n bytes stand before one that ends a host
module _ (s : List ℕ) (n : ℕ) (e : begins 91 s ≡ false) (hn : n ≡ span (λ b. not (ends_host b)) s) where
  name_text : host_text s ≡ take n s
  unfolding host_text
  name_text = rw (e, hn)

  name_test : is_host_text (take n s) ≡ (non_empty (take n s) && all is_host (take n s))
  unfolding is_host_text
  name_test = rw (begins_none 91 n s e)

  name_empty : n ≡ 0 → None ≡ host_from (host_text s)
  name_empty z = rw (name_text, name_test, z)

  name_bad : all is_host (take n s) ≡ false → None ≡ host_from (host_text s)
  name_bad f = rw (name_text, name_test, f, and-false (non_empty (take n s)))

  name_good : (n ≡ 0 → ⊥) → n ≤ length s → all is_host (take n s) ≡ true → Some n ≡ host_from (host_text s)
  name_good z h f =
      let k : length (take n s) ≡ n = length-take-le n s h in
      rw (name_text, name_test, f, filled (take n s) (omega arith), k)

-- n bytes of a host's name stand first
module _ (s : List ℕ) (n : ℕ) (e : begins 91 s ≡ false) (hn : n ≡ span is_host s) where
  -- the byte that ends the host
  stop : ℕ
  stop = span (λ b. not (ends_host b)) s

  reached : n ≤ stop
  unfolding stop
  reached = rw hn (span_longer is_host (λ b. not (ends_host b)) host_goes_on s)

  good : n ≡ stop → (n ≡ 0 → ⊥) → n ≤ length s → Some n ≡ host_from (host_text s)
  unfolding stop
  good h z k = name_good s n e h z k (all_before is_host s n (omega arith))

  pub name_whole : n ≡ length s → (n ≡ 0 → ⊥) → Some n ≡ host_from (host_text s)
  unfolding stop
  name_whole h z = good (omega (arith, reached, span_le (λ b. not (ends_host b)) s)) z (omega arith)

  -- the next byte ends the host
  module _ (f : ends_host (get_or s n 0) ≡ true) where
    stops : n ≡ stop
    unfolding stop
    stops = omega (arith, reached, span_until (λ b. not (ends_host b)) s n (ap not f))

    pub name_none : n ≡ 0 → None ≡ host_from (host_text s)
    unfolding stop
    name_none z = name_empty s n e stops z

    pub name_ended : (n ≡ 0 → ⊥) → n ≤ length s → Some n ≡ host_from (host_text s)
    name_ended z k = good stops z k

  -- it doesn't, and no host has it
  pub name_broken : n < length s → ends_host (get_or s n 0) ≡ false → None ≡ host_from (host_text s)
  unfolding stop
  name_broken h f = name_bad s stop e refl (all_fails is_host (take stop s) n (omega (arith, after, length-take stop s)) (rw (get_or-take stop s n 0 after, hn) (span_ends is_host s (rw (← hn) h))))
    where
      at_stop : n ≡ stop → ⊥
      at_stop q = true≢false (sym (ap not f) ∙ rw q (span_ends (λ b. not (ends_host b)) s (rw (← q) h)))

      after : n < stop
      after = omega (arith, reached, at_stop)

-- ---- brackets

-- n bytes stand before the first `]`
module _ (s : List ℕ) (n : ℕ) (e : begins 91 s ≡ true) (hn : n ≡ span (other 93) s) where
  bracket_text : host_text s ≡ take (n + 1) s
  unfolding host_text
  bracket_text = rw (e, hn)

  bracket_test : is_host_text (take (n + 1) s) ≡ is_bracketed (take (n + 1) s)
  unfolding is_host_text
  bracket_test = rw (add-one n, begins_take 91 n s, e)

  -- there is none
  pub bracket_open : n ≡ length s → None ≡ host_from (host_text s)
  unfolding is_bracketed
  bracket_open h =
      let k : 0 < length s = begins_some 91 s e in
      let l : take (n + 1) s ≡ s = take_all (n + 1) s (omega arith) in
      let z : eqb (get_or s (length s - 1) 0) 93 ≡ false = not-true _ (span_passes (other 93) s (length s - 1) (omega arith)) in
      rw (bracket_text, bracket_test, l, z, and-false)

  -- nothing stands between them
  pub bracket_short : n < 2 → None ≡ host_from (host_text s)
  unfolding is_bracketed
  bracket_short h = rw (bracket_text, bracket_test, le-ltb 2 (length (take (n + 1) s)) (omega (arith, length-take (n + 1) s)))

  -- n - 1 bytes stand between them
  bracket_is : 2 ≤ n → n < length s → is_host_text (host_text s) ≡ all is_address (take (n - 1) (drop 1 s))
  unfolding is_bracketed
  bracket_is h k =
      let l : length (take (n + 1) s) ≡ n + 1 = length-take-le (n + 1) s (omega arith) in
      let i : n + 1 - 1 ≡ n = omega arith in
      let j : n + 1 - 2 ≡ n - 1 = omega arith in
      let z : eqb (get_or (take (n + 1) s) n 0) 93 ≡ true = rw (get_or-take (n + 1) s n 0 (omega arith), hn) (not-false _ (span_ends (other 93) s (rw (← hn) k))) in
      rw (bracket_text, bracket_test, l, i, z, j, lt-ltb 2 (n + 1) (omega arith), drop_take 1 (n + 1) s, i, take-take (n - 1) n (drop 1 s) (omega arith))

  pub bracket_bad : 2 ≤ n → n < length s → all is_address (take (n - 1) (drop 1 s)) ≡ false → None ≡ host_from (host_text s)
  bracket_bad h k f = rw (bracket_is h k, f)

  pub bracket_good : 2 ≤ n → n < length s → all is_address (take (n - 1) (drop 1 s)) ≡ true → Some (n + 1) ≡ host_from (host_text s)
  bracket_good h k f = rw (bracket_is h k, f, bracket_text, length-take-le (n + 1) s (omega arith))

-- ---- the bytes of a host stand first, and are bytes of a URI

pub host_own : (s : List ℕ) → take (length (host_text s)) s ≡ host_text s
unfolding host_text
host_own s = by (begins 91 s)
  where
    by : (t : Bool) → take (length (cond t (take (span (other 93) s + 1) s) (take (span (λ b. not (ends_host b)) s) s))) s ≡ cond t (take (span (other 93) s + 1) s) (take (span (λ b. not (ends_host b)) s) s)
    by true = take_own (span (other 93) s + 1) s
    by false = take_own (span (λ b. not (ends_host b)) s) s

-- t stands after `[`: an address, then `]`
module _ (t : List ℕ) (h : 2 < suc (length t)) where
  last : drop (length t - 1) t ≡ get_or t (length t - 1) 0 ∷ []
  last =
      let k : suc (length t - 1) ≡ length t = omega arith in
      rw (drop-cons t (length t - 1) 0 (omega arith), k, drop_of_length-le t (le_refl (length t)))

  inner : all is_address (take (length t - 1) t) ≡ true → eqb (get_or t (length t - 1) 0) 93 ≡ true → all is_uri t ≡ true
  unfolding all
  inner f g = rw (all_split is_uri (length t - 1) t, all_weaker is_address is_uri address_uri (take (length t - 1) t) f, last, eqb-true (get_or t (length t - 1) 0) 93 g)

pub host_uris : (h : List ℕ) → is_host_text h ≡ true → all is_uri h ≡ true
unfolding is_host_text is_bracketed all
host_uris [] e = refl
host_uris (b ∷ t) e = by (eqb b 91) refl e
  where
    closed : (i j : ℕ) → (2 < suc (length t) → i ≡ suc (length t - 1)) → (2 < suc (length t) → j ≡ length t - 1) → (ltb 2 (suc (length t)) && (eqb (get_or (b ∷ t) i 0) 93 && all is_address (take j t))) ≡ true → all is_uri t ≡ true
    closed i j p q e =
        let x = and_parts (ltb 2 (suc (length t))) _ e in
        let y = and_parts (eqb (get_or (b ∷ t) i 0) 93) _ x.1 in
        let l = ltb-true 2 (suc (length t)) x.0 in
        inner t l (rw (q l) at y.1) (rw (p l) at y.0)

    by : (u : Bool) → eqb b 91 ≡ u → cond u (is_bracketed (b ∷ t)) (non_empty (b ∷ t) && all is_host (b ∷ t)) ≡ true → (is_uri b && all is_uri t) ≡ true
    by true f e = rw (closed (suc (length t) - 1) (suc (length t) - 2) (λ (l : 2 < suc (length t)). omega arith) (λ (l : 2 < suc (length t)). omega arith) e, eqb-true b 91 f)
    by false f e = all_weaker is_host is_uri host_uri (b ∷ t) e
