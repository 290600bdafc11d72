-- The scheme, the user part and what stands after them. Assumes nothing.
use Prim.Native.Nat.{ℕ, zero, suc, ◌+◌, ◌-◌, ◌≤◌, ◌<◌}
use native.Mathlib.Omega.{arith}
use mathlib.Core.Path.{◌≡◌, refl, sym, ap, ap₂, ◌∙◌}
use mathlib.Core.Bool.{Bool, true, false, cond, not, ◌&&◌, true≢false}
use mathlib.Core.List.{List, [], ◌∷◌}
use lib.ListN.{length, take, drop, get_or, length-take, length-drop}
use lib.Seq.{length-take-le, drop-drop}
use lib.Dec.{eqb}
use borrow.Author.Tests.{lt-ltb, le-ltb, eq-eqb, ne_eqb}
use Rattle.std.proofs.lemmas.List.{take_rest}
use Rattle.std.proofs.lemmas.Bool.{and_parts}
use Rattle.std.specs.Prelude.{None, Option, Some}
use Rattle.limits.proofs.Laws.{some_pair}
use Rattle.text.specs.Text.{span, all, other, alike, same, lower, Piece}
use Rattle.text.specs.Answers.{span_of}
use Rattle.text.specs.declared.Span.{Span}
use Rattle.text.proofs.Runs.{span_le, part_length}
use Rattle.uri.proofs.Hosts.{host_own, host_uris}
use Rattle.uri_bytes.specs.Bytes.{is_uri}
use Rattle.uri_bytes.specs.Classes.{in_class}
use Rattle.uri_bytes.specs.declared.Class.TheVariants as class
use Rattle.uri_bytes.proofs.Bytes.{alike_uri}
use Rattle.uri_bytes.proofs.Spans.{span_ends, span_until, span_longer, all_before, all_fails, all_split}
use Rattle.uri.specs.SipUri.{sip, sips, is_host_text, host_text, port_of, with_port, with_host, with_user, with_scheme, sip_uri, UriParts, uri_from, user_at, user_from}
use Rattle.uri.specs.Steps.{host_from, after_host_from, piece_in, scheme_length, of_uri, user_in, UserInside, UserStep}

-- the part from `at` to the end, as the code has it
abbrev pub part : List ℕ → ℕ → List ℕ
part s at = take (length s - at) (drop at s)

-- ---- conjunctions

not_first : (a b : Bool) → (a && b) ≡ false → b ≡ true → a ≡ false
not_first true b e f = absurd (true≢false (sym f ∙ e))
not_first false b e f = refl

-- ---- the scheme

same_lengths : (f : ℕ → ℕ) (a b : List ℕ) → alike f a b ≡ true → length a ≡ length b
unfolding alike
same_lengths f [] [] e = refl
same_lengths f [] (y ∷ b) e = absurd (true≢false (sym e))
same_lengths f (x ∷ a) [] e = absurd (true≢false (sym e))
same_lengths f (x ∷ a) (y ∷ b) e = ap suc (same_lengths f a b (and_parts (eqb (f x) (f y)) (alike f a b) e).1)

-- a text that begins with a head is as long
pub starts_fits : (s head : List ℕ) → same (take (length head) s) head ≡ true → length head ≤ length s
starts_fits s head e = omega (arith, same_lengths lower (take (length head) s) head e, length-take (length head) s)

-- what is not read of bytes is not read of a URI's
pub unread_of : (s : List ℕ) → of_uri s None ≡ None
unread_of s = by (all is_uri s)
  where
    by : (t : Bool) → ◌≡◌ {A = Option UriParts} (cond t None None) None
    by true = refl
    by false = refl

-- the scheme, by whether the text begins with each of the two
abbrev scheme_by : Bool → Bool → Option (ℕ × Bool)
scheme_by t u = cond t (Some (4, false)) (cond u (Some (5, true)) None)

module _ (s : List ℕ) where
  -- the scheme's bytes are those of a URI
  after_head : (k : ℕ) (head : List ℕ) → all is_uri head ≡ true → same (take k s) head ≡ true → all is_uri s ≡ all is_uri (drop k s)
  after_head k head h e = rw (all_split is_uri k s, alike_uri (take k s) head e, h)

  pub scheme_none : scheme_length s ≡ None → sip_uri s ≡ None
  unfolding sip_uri with_scheme
  scheme_none h = by (same (take 4 s) sip) refl (same (take 5 s) sips) refl h
    where
      by : (t : Bool) → same (take 4 s) sip ≡ t → (u : Bool) → same (take 5 s) sips ≡ u → scheme_by t u ≡ None → sip_uri s ≡ None
      by true e u f q = absurd (let z : ◌≡◌ {A = ℕ} 0 1 = cc in omega arith)
      by false e true f q = absurd (let z : ◌≡◌ {A = ℕ} 0 1 = cc in omega arith)
      by false e false f q = rw (e, f) (unread_of s)

  module _ (n : ℕ) (secure : Bool) (h : scheme_length s ≡ Some (n, secure)) where
    pub scheme_fits : n ≤ length s
    scheme_fits = by (same (take 4 s) sip) refl (same (take 5 s) sips) refl h
      where
        by : (t : Bool) → same (take 4 s) sip ≡ t → (u : Bool) → same (take 5 s) sips ≡ u → scheme_by t u ≡ Some (n, secure) → n ≤ length s
        by true e u f q = rw (← (some_pair q).0) (starts_fits s sip e)
        by false e true f q = rw (← (some_pair q).0) (starts_fits s sips f)
        by false e false f q = absurd (let z : ◌≡◌ {A = ℕ} 0 1 = cc in omega arith)

    pub scheme_read : sip_uri s ≡ of_uri (drop n s) (with_user secure n (drop n s))
    unfolding sip_uri with_scheme all
    scheme_read = by (same (take 4 s) sip) refl (same (take 5 s) sips) refl h
      where
        by : (t : Bool) → same (take 4 s) sip ≡ t → (u : Bool) → same (take 5 s) sips ≡ u → scheme_by t u ≡ Some (n, secure) → sip_uri s ≡ of_uri (drop n s) (with_user secure n (drop n s))
        by true e u f q = rw (← (some_pair q).0, ← (some_pair q).1, e, after_head 4 sip refl e)
        by false e true f q = rw (← (some_pair q).0, ← (some_pair q).1, e, f, after_head 5 sips refl f)
        by false e false f q = absurd (let z : ◌≡◌ {A = ℕ} 0 1 = cc in omega arith)

-- ---- the user part: n bytes stand before the first `@` of what stands after the scheme

module _ (secure : Bool) (s : List ℕ) (at n : ℕ) (hn : n ≡ span (other 64) (part s at)) where
  run : n ≡ span (other 64) (drop at s)
  run = rw take_rest at hn

  pub no_user : n ≡ length (part s at) → with_host secure (user_in s at None) at (drop at s) ≡ with_user secure at (drop at s)
  unfolding with_user
  no_user e =
      let h : length (drop at s) ≤ n = omega (arith, rw take_rest at e) in
      rw (← run, le-ltb n (length (drop at s)) h)

  module _ (h : n < length (part s at)) where
    inside : n < length (drop at s)
    inside = rw take_rest at h

    pub empty_user : n ≡ 0 → with_user secure at (drop at s) ≡ None
    unfolding with_user
    empty_user z = rw (← run, lt-ltb n (length (drop at s)) inside, le-ltb 0 n (omega arith))

    pub some_user : (n ≡ 0 → ⊥) → with_host secure (piece_in s (record { start = at; length = n })) (at + n + 1) (drop (at + n + 1) s) ≡ with_user secure at (drop at s)
    unfolding with_user
    some_user z =
        let k : at + (n + 1) ≡ at + n + 1 = omega arith in
        rw (← run, lt-ltb n (length (drop at s)) inside, lt-ltb 0 n (omega arith), drop-drop (n + 1) at s, k)

-- the run of bytes that a user part may have, n of them
module _ (s : List ℕ) (at n : ℕ) (hn : n ≡ span (in_class class.User) (part s at)) where
  of_user : (b : ℕ) → in_class class.User b ≡ true → other 64 b ≡ true
  of_user b e = (and_parts (is_uri b) (other 64 b) e).1

  of_uri_lem : (b : ℕ) → in_class class.User b ≡ true → is_uri b ≡ true
  of_uri_lem b e = (and_parts (is_uri b) (other 64 b) e).0

  no_at : n ≤ span (other 64) (part s at)
  no_at = rw hn (span_longer (in_class class.User) (other 64) of_user (part s at))

  -- there is no `@`
  pub step_whole : at ≤ length s → n ≡ length (part s at) → UserStep s at (Some (None, at))
  step_whole h e =
      let k : n ≡ span (other 64) (part s at) = omega (arith, no_at, span_le (other 64) (part s at)) in
      (h, tt, λ secure. ap (of_uri (drop at s)) (sym (no_user secure s at n k e)))

  -- the next byte is one that no URI has
  pub step_broken : n < length (part s at) → (get_or (part s at) n 0 ≡ 64 → ⊥) → UserStep s at None
  step_broken h e = λ secure. ap (λ (t : Bool). cond t (with_user secure at (drop at s)) None) (rw take_rest at (all_fails is_uri (part s at) n h bad))
    where
      stops : in_class class.User (get_or (part s at) n 0) ≡ false
      stops = rw hn (span_ends (in_class class.User) (part s at) (rw (← hn) h))

      bad : is_uri (get_or (part s at) n 0) ≡ false
      bad = not_first (is_uri (get_or (part s at) n 0)) (other 64 (get_or (part s at) n 0)) stops (ap not (ne_eqb _ _ e))

  -- it is the first `@`
  module _ (h : n < length (part s at)) (e : get_or (part s at) n 0 ≡ 64) where
    stops_at : n ≡ span (other 64) (part s at)
    stops_at = omega (arith, no_at, span_until (other 64) (part s at) n (ap not (eq-eqb _ _ e)))

    pub step_empty : n ≡ 0 → UserStep s at None
    step_empty z = λ secure. ap (of_uri (drop at s)) (empty_user secure s at n stops_at h z) ∙ unread_of (drop at s)

    all_uri : all is_uri (take (n + 1) (part s at)) ≡ true
    all_uri =
        let l : n ≤ span is_uri (part s at) = rw hn (span_longer (in_class class.User) is_uri of_uri_lem (part s at)) in
        all_before is_uri (part s at) (n + 1) (omega (arith, goes_on, l))
      where
        goes_on : n ≡ span is_uri (part s at) → ⊥
        goes_on q = true≢false (sym (ap is_uri e) ∙ rw q (span_ends is_uri (part s at) (rw (← q) h)))

    after_at : all is_uri (drop at s) ≡ all is_uri (drop (at + n + 1) s)
    after_at =
        let k : at + (n + 1) ≡ at + n + 1 = omega arith in
        rw (all_split is_uri (n + 1) (drop at s), rw take_rest at all_uri, drop-drop (n + 1) at s, k)

    pub step_read : (n ≡ 0 → ⊥) → at ≤ length s → UserStep s at (Some (Some (record { start = at; length = n }), at + n + 1))
    step_read z l = (
      omega (arith, part_length s at),
      (omega arith, omega (arith, part_length s at)),
      λ secure. ap (λ (t : Bool). cond t (with_user secure at (drop at s)) None) after_at ∙ ap (of_uri (drop (at + n + 1) s)) (sym (some_user secure s at n stops_at h z)),
    )

-- what the answer of `user_part` says
pub no_part : (at n : ℕ) → user_at at n ≡ None → n ≡ 0
no_part at zero e = refl
no_part at (suc n) e = absurd (let z : ◌≡◌ {A = ℕ} 0 1 = cc (lt-ltb 0 (suc n) (omega arith)) in omega arith)

pub some_part : (at n : ℕ) {u : Span} → user_at at n ≡ Some u → (n ≡ 0 → ⊥) × (record { start = at; length = n } ≡ u)
some_part at zero e = absurd (let z : ◌≡◌ {A = ℕ} 0 1 = cc in omega arith)
some_part at (suc n) e = (λ z. omega arith, cc (lt-ltb 0 (suc n) (omega arith)))

-- ---- the host and the port

host_is : (h : List ℕ) (t : Bool) {n : ℕ} → cond t (Some (length h)) None ≡ Some n → (t ≡ true) × (length h ≡ n)
host_is h true e = (refl, cc)
host_is h false e = absurd (let z : ◌≡◌ {A = ℕ} 0 1 = cc in omega arith)

host_not : (h : List ℕ) (t : Bool) → cond t (Some (length h)) None ≡ None → t ≡ false
host_not h true e = absurd (let z : ◌≡◌ {A = ℕ} 0 1 = cc in omega arith)
host_not h false e = refl

port_not : (secure : Bool) (user host : Piece) (o : Option (Option ℕ)) → after_host_from o ≡ None → with_port secure user host o ≡ None
port_not secure user host None e = refl
port_not secure user host (Some p) e = absurd (let z : ◌≡◌ {A = ℕ} 0 1 = cc in omega arith)

port_is : (secure : Bool) (user host : Piece) (o : Option (Option ℕ)) (p : Option ℕ) → after_host_from o ≡ Some p
    → Some (record { secure = secure; user = user_from user; host = span_of host; port = p }) ≡ uri_from (with_port secure user host o)
port_is secure user host None p e = absurd (let z : ◌≡◌ {A = ℕ} 0 1 = cc in omega arith)
port_is secure user host (Some q) p e = ap (λ (x : Option ℕ). Some (record { secure = secure; user = user_from user; host = span_of host; port = x })) (cc)

-- the user part as the code has it is that of what stands there
user_is : (s : List ℕ) (at : ℕ) (u : Option Span) → UserInside s u → user_from (user_in s at u) ≡ u
user_is s at None h = refl
user_is s at (Some u) h =
    let k : length (take u.length (drop u.start s)) ≡ u.length = length-take-le u.length (drop u.start s) (omega (arith, length-drop u.start s)) in
    rw (k, lt-ltb 0 u.length h.0)

abbrev host_piece : ℕ → List ℕ → Piece
host_piece at s = record { place = at; text = host_text s }

module _ (secure : Bool) (s : List ℕ) (at : ℕ) (user : Option Span) where
  pub host_unread : host_from (host_text (part s at)) ≡ None → of_uri (drop at s) (with_host secure (user_in s at user) at (drop at s)) ≡ None
  unfolding with_host
  host_unread e = rw (host_not (host_text (drop at s)) (is_host_text (host_text (drop at s))) (rw (take_rest s at) at e)) (unread_of (drop at s))

  module _ (n : ℕ) (e : host_from (host_text (part s at)) ≡ Some n) where
    known : (is_host_text (host_text (drop at s)) ≡ true) × (length (host_text (drop at s)) ≡ n)
    known = host_is (host_text (drop at s)) (is_host_text (host_text (drop at s))) (rw (take_rest s at) at e)

    from_port : with_host secure (user_in s at user) at (drop at s) ≡ with_port secure (user_in s at user) (host_piece at (drop at s)) (port_of (part (part s at) n))
    unfolding with_host
    from_port = rw (known.0, known.1, take_rest s at, take_rest (drop at s) n)

    -- the bytes of the host are those of a URI, so that those after it tell
    tail_tells : all is_uri (drop at s) ≡ all is_uri (part (part s at) n)
    tail_tells =
        let k : take n (drop at s) ≡ host_text (drop at s) = rw (← known.1) (host_own (drop at s)) in
        rw (take_rest s at, take_rest (drop at s) n, all_split is_uri n (drop at s), k, host_uris (host_text (drop at s)) known.0)

    pub port_unread : after_host_from (port_of (part (part s at) n)) ≡ None → of_uri (drop at s) (with_host secure (user_in s at user) at (drop at s)) ≡ None
    port_unread f = ap (of_uri (drop at s)) (from_port ∙ port_not secure (user_in s at user) (host_piece at (drop at s)) (port_of (part (part s at) n)) f) ∙ unread_of (drop at s)

    pub tail_bad : all is_uri (part (part s at) n) ≡ false → of_uri (drop at s) (with_host secure (user_in s at user) at (drop at s)) ≡ None
    tail_bad f = rw (tail_tells, f)

    pub parts_read : (p : Option ℕ) → UserInside s user → after_host_from (port_of (part (part s at) n)) ≡ Some p → all is_uri (part (part s at) n) ≡ true
        → Some (record { secure = secure; user = user; host = record { start = at; length = n }; port = p }) ≡ uri_from (of_uri (drop at s) (with_host secure (user_in s at user) at (drop at s)))
    parts_read p h f g =
        ap₂ (λ (u : Option Span) (k : ℕ). Some (record { secure = secure; user = u; host = record { start = at; length = k }; port = p })) (sym (user_is s at user h)) (sym known.1)
        ∙ port_is secure (user_in s at user) (host_piece at (drop at s)) (port_of (part (part s at) n)) p f
        ∙ ap uri_from (sym from_port ∙ sym (ap (λ (t : Bool). cond t (with_host secure (user_in s at user) at (drop at s)) None) (tail_tells ∙ g)))
