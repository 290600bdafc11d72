-- A URI that can be read is secure exactly if its text begins with `sips:`. Assumes nothing.
use Prim.Native.Nat.{ℕ, ◌+◌}
use native.Mathlib.Omega.{arith}
use mathlib.Core.Path.{◌≡◌, refl, sym, ap, ◌∙◌}
use mathlib.Core.Bool.{Bool, true, false, cond, ◌&&◌, and-false, false≢true}
use mathlib.Core.List.{List, [], ◌∷◌}
use lib.ListN.{take, drop, length}
use lib.Dec.{ltb, eqb}
use borrow.Author.Tests.{eqb-true, ne_eqb}
use Rattle.std.specs.Prelude.{None, Option, Some}
use Rattle.text.specs.Text.{span, other, all, alike, same, lower, Piece}
use Rattle.uri_bytes.specs.Bytes.{is_uri}
use Rattle.uri.specs.SipUri.{UriParts, sip, has, is_host_text, host_text, port_of, with_port, with_host, with_user, with_scheme, sip_uri}
use Rattle.record.specs.Record.{is_sips}

-- ---- the parts keep the scheme's answer

nothing : {p : UriParts} → None ≡ Some p → ⊥
nothing e = let z : ◌≡◌ {A = ℕ} 0 1 = cc in omega arith

port_keeps : (b : Bool) (user host : Piece) (o : Option (Option ℕ)) {p : UriParts} → with_port b user host o ≡ Some p → p.secure ≡ b
port_keeps b user host None e = absurd (nothing e)
port_keeps b user host (Some port) {p} e =
    let q : record { secure = b; user = user; host = host; port = port } ≡ p = cc in
    ap (λ (x : UriParts). x.secure) (sym q)

host_keeps : (b : Bool) (user : Piece) (at : ℕ) (s : List ℕ) {p : UriParts} → with_host b user at s ≡ Some p → p.secure ≡ b
unfolding with_host
host_keeps b user at s {p} e = by (is_host_text (host_text s)) e
  where
    by : (t : Bool) → cond t (with_port b user (record { place = at; text = host_text s }) (port_of (drop (length (host_text s)) s))) None ≡ Some p → p.secure ≡ b
    by true e = port_keeps b user (record { place = at; text = host_text s }) (port_of (drop (length (host_text s)) s)) e
    by false e = absurd (nothing e)

user_keeps : (b : Bool) (at : ℕ) (s : List ℕ) {p : UriParts} → with_user b at s ≡ Some p → p.secure ≡ b
unfolding with_user
user_keeps b at s {p} e = by (has 64 s) (ltb 0 (span (other 64) s)) e
  where
    by : (t u : Bool) → cond t (cond u (with_host b (record { place = at; text = take (span (other 64) s) s }) (at + span (other 64) s + 1) (drop (span (other 64) s + 1) s)) None) (with_host b (record { place = at; text = [] }) at s) ≡ Some p → p.secure ≡ b
    by true true e = host_keeps b (record { place = at; text = take (span (other 64) s) s }) (at + span (other 64) s + 1) (drop (span (other 64) s + 1) s) e
    by true false e = absurd (nothing e)
    by false u e = host_keeps b (record { place = at; text = [] }) at s e

-- ---- the scheme

-- the fourth byte tells `sip:` from `sips:`
fourth : (a b c x y : Bool) → (a && (b && (c && (x && true)))) ≡ true → x ≡ true
fourth true true true true y e = refl
fourth true true true false y e = absurd (false≢true e)
fourth true true false x y e = absurd (false≢true e)
fourth true false c x y e = absurd (false≢true e)
fourth false b c x y e = absurd (false≢true e)

without : (a b c x y : Bool) → x ≡ false → (a && (b && (c && (x && y)))) ≡ false
without true true true x y e = rw e
without true true false x y e = refl
without true false c x y e = refl
without false b c x y e = refl

plain : (t : List ℕ) → same (take 4 t) sip ≡ true → is_sips t ≡ false
unfolding alike
plain [] e = absurd (false≢true e)
plain (a ∷ []) e = simp and-false
plain (a ∷ b ∷ []) e = simp and-false
plain (a ∷ b ∷ c ∷ []) e = simp and-false
plain (a ∷ b ∷ c ∷ d ∷ t) e =
    let k : eqb (lower d) 58 ≡ true = fourth (eqb (lower a) 115) (eqb (lower b) 105) (eqb (lower c) 112) (eqb (lower d) 58) true e in
    let l : lower d ≡ 58 = eqb-true _ _ k in
    without (eqb (lower a) 115) (eqb (lower b) 105) (eqb (lower c) 112) (eqb (lower d) 115) _ (ne_eqb (lower d) 115 (λ q. omega arith))

scheme_is : (t : List ℕ) {p : UriParts} → with_scheme t ≡ Some p → p.secure ≡ is_sips t
unfolding with_scheme
scheme_is t {p} e = by (same (take 4 t) sip) refl (is_sips t) refl e
  where
    by : (a : Bool) → same (take 4 t) sip ≡ a → (b : Bool) → is_sips t ≡ b → cond a (with_user false 4 (drop 4 t)) (cond b (with_user true 5 (drop 5 t)) None) ≡ Some p → p.secure ≡ is_sips t
    by true f b g e = user_keeps false 4 (drop 4 t) e ∙ sym (plain t f)
    by false f true g e = user_keeps true 5 (drop 5 t) e ∙ sym g
    by false f false g e = absurd (nothing e)

pub secure_is : (t : List ℕ) {p : UriParts} → sip_uri t ≡ Some p → p.secure ≡ is_sips t
unfolding sip_uri
secure_is t {p} e = by (all is_uri t) e
  where
    by : (b : Bool) → cond b (with_scheme t) None ≡ Some p → p.secure ≡ is_sips t
    by true e = scheme_is t e
    by false e = absurd (nothing e)
