-- What stands after a host: nothing, a port, parameters or headers. Assumes nothing.
use Prim.Native.Nat.{ℕ, suc, ◌-◌, ◌≤◌, ◌<◌}
use native.Mathlib.Numerals.{sub-one}
use native.Mathlib.Omega.{arith}
use mathlib.Core.Path.{◌≡◌, refl}
use mathlib.Core.Bool.{Bool, true, false, cond, ◌&&◌, and-false}
use mathlib.Core.List.{List, [], ◌∷◌}
use lib.ListN.{length, take, drop, get_or}
use lib.Seq.{take-length}
use lib.Dec.{leb, ltb}
use borrow.Author.Tests.{eq-eqb, ne_eqb, le-leb, lt-leb, ltb-true}
use Rattle.std.proofs.lemmas.List.{take_rest}
use Rattle.std.proofs.lemmas.Bool.{and_parts}
use Rattle.std.specs.Prelude.{None, Option, Some}
use Rattle.text.specs.Text.{span, all, is_digit}
use Rattle.text.specs.Number.{non_empty, value, digits_below, number_from}
use Rattle.uri_bytes.specs.Bytes.{ends_port}
use Rattle.uri.specs.SipUri.{at_end, port_number, given_port, port_of}

-- ---- numbers

-- what the answer of a number reading says of the reading
pub not_read : (o : Option ℕ) → number_from o ≡ None → o ≡ None
not_read None e = refl
not_read (Some n) e = absurd (let z : ◌≡◌ {A = ℕ} 0 1 = cc in omega arith)

pub was_read : (o : Option ℕ) {v : ℕ} → number_from o ≡ Some v → o ≡ Some v
was_read None e = absurd (let z : ◌≡◌ {A = ℕ} 0 1 = cc in omega arith)
was_read (Some n) e = cc

picked : {x v : ℕ} (t : Bool) → cond t (Some x) None ≡ Some v → (t ≡ true) × (x ≡ v)
picked true e = (refl, cc)
picked false e = absurd (let z : ◌≡◌ {A = ℕ} 0 1 = cc in omega arith)

-- a number that was read is below its bound
pub read_below : (w v : ℕ) (s : List ℕ) → digits_below w s ≡ Some v → v < w
unfolding digits_below
read_below w v s e =
    let p : ((non_empty s && (all is_digit s && ltb (value s) w)) ≡ true) × (value s ≡ v) = picked _ e in
    rw (← p.1) (ltb-true _ _ (and_parts (all is_digit s) _ (and_parts (non_empty s) _ p.0).1).1)

-- ---- the port: n digits stand first

module _ (s : List ℕ) (n : ℕ) (hn : n ≡ span is_digit s) where
  pub port_long : 5 < n → port_number s ≡ None
  unfolding port_number
  port_long h = rw (← hn, lt-leb n 5 h)

  pub port_open : at_end (take (length s - n) (drop n s)) ≡ false → port_number s ≡ None
  unfolding port_number
  port_open e = rw (← hn, rw take_rest at e, and-false (leb n 5))

  pub port_digits : n ≤ 5 → at_end (take (length s - n) (drop n s)) ≡ true → port_number s ≡ digits_below 65536 (take n s)
  unfolding port_number
  port_digits h e = rw (← hn, rw take_rest at e, le-leb n 5 h)

-- ---- after the host

pub port_none : (s : List ℕ) → length s ≡ 0 → port_of s ≡ Some None
unfolding port_of
port_none [] h = refl
port_none (b ∷ s) h = absurd (omega arith)

pub port_given : (s : List ℕ) → 0 < length s → get_or s 0 0 ≡ 58 → port_of s ≡ given_port (port_number (take (length s - 1) (drop 1 s)))
unfolding port_of
port_given [] h e = absurd (omega arith)
port_given (b ∷ s) h e = rw (eq-eqb b 58 e, sub-one (suc (length s)), take-length s)

-- no `:`: whether it may stand there is told by its first byte
pub port_absent : (s : List ℕ) → 0 < length s → (get_or s 0 0 ≡ 58 → ⊥) → port_of s ≡ cond (ends_port (get_or s 0 0)) (Some None) None
unfolding port_of
port_absent [] h e = absurd (omega arith)
port_absent (b ∷ s) h e = rw (ne_eqb b 58 e)
