-- Methods by their place in the list of names. Assumes nothing.
use Prim.Native.Nat.{ℕ, zero, suc, ◌+◌, ◌-◌, ◌≤◌, ◌<◌}
use native.Mathlib.Omega.{arith}
use mathlib.Core.Path.{◌≡◌, refl}
use mathlib.Core.Bool.{Bool, true, false, cond, not, ◌&&◌}
use mathlib.Core.List.{List, [], ◌∷◌}
use lib.ListN.{length, get_or}
use lib.Dec.{leb}
use borrow.Author.Tests.{leb-true, le-leb, lt-ltb, le-ltb}
use Rattle.std.proofs.lemmas.Bool.{and_parts}
use Rattle.std.specs.Prelude.{Err, None, Ok, Option, Some}
use Rattle.limits.specs.Outcome.{refuse_by}
use Rattle.limits.specs.declared.Refusal.TheVariants.{NoRoom}
use Rattle.text.specs.Text.{is_blank, is_value, all, same}
use Rattle.text.specs.Number.{non_empty}
use Rattle.methods.specs.Methods.{method_names, position_from, method_of, is_method, name_of, method_from, method_cause}
use Rattle.output.specs.Output.{fitted}
use Rattle.output.proofs.ClassLaws.{within_range}

pub fourteen : length method_names ≡ 14
unfolding method_names
fourteen = refl

-- ---- the table of names

-- a number of the fourteen, one at a time
pub one_of : {G : Type 0} (m : ℕ) → 1 ≤ m → m ≤ 14 → (m ≡ 1 → G) → (m ≡ 2 → G) → (m ≡ 3 → G) → (m ≡ 4 → G) → (m ≡ 5 → G) → (m ≡ 6 → G) → (m ≡ 7 → G) → (m ≡ 8 → G) → (m ≡ 9 → G) → (m ≡ 10 → G) → (m ≡ 11 → G) → (m ≡ 12 → G) → (m ≡ 13 → G) → (m ≡ 14 → G) → G
one_of zero l h f1 f2 f3 f4 f5 f6 f7 f8 f9 f10 f11 f12 f13 f14 = absurd (omega arith)
one_of (suc zero) l h f1 f2 f3 f4 f5 f6 f7 f8 f9 f10 f11 f12 f13 f14 = f1 refl
one_of (suc (suc zero)) l h f1 f2 f3 f4 f5 f6 f7 f8 f9 f10 f11 f12 f13 f14 = f2 refl
one_of (suc (suc (suc zero))) l h f1 f2 f3 f4 f5 f6 f7 f8 f9 f10 f11 f12 f13 f14 = f3 refl
one_of (suc (suc (suc (suc zero)))) l h f1 f2 f3 f4 f5 f6 f7 f8 f9 f10 f11 f12 f13 f14 = f4 refl
one_of (suc (suc (suc (suc (suc zero))))) l h f1 f2 f3 f4 f5 f6 f7 f8 f9 f10 f11 f12 f13 f14 = f5 refl
one_of (suc (suc (suc (suc (suc (suc zero)))))) l h f1 f2 f3 f4 f5 f6 f7 f8 f9 f10 f11 f12 f13 f14 = f6 refl
one_of (suc (suc (suc (suc (suc (suc (suc zero))))))) l h f1 f2 f3 f4 f5 f6 f7 f8 f9 f10 f11 f12 f13 f14 = f7 refl
one_of (suc (suc (suc (suc (suc (suc (suc (suc zero)))))))) l h f1 f2 f3 f4 f5 f6 f7 f8 f9 f10 f11 f12 f13 f14 = f8 refl
one_of (suc (suc (suc (suc (suc (suc (suc (suc (suc zero))))))))) l h f1 f2 f3 f4 f5 f6 f7 f8 f9 f10 f11 f12 f13 f14 = f9 refl
one_of (suc (suc (suc (suc (suc (suc (suc (suc (suc (suc zero)))))))))) l h f1 f2 f3 f4 f5 f6 f7 f8 f9 f10 f11 f12 f13 f14 = f10 refl
one_of (suc (suc (suc (suc (suc (suc (suc (suc (suc (suc (suc zero))))))))))) l h f1 f2 f3 f4 f5 f6 f7 f8 f9 f10 f11 f12 f13 f14 = f11 refl
one_of (suc (suc (suc (suc (suc (suc (suc (suc (suc (suc (suc (suc zero)))))))))))) l h f1 f2 f3 f4 f5 f6 f7 f8 f9 f10 f11 f12 f13 f14 = f12 refl
one_of (suc (suc (suc (suc (suc (suc (suc (suc (suc (suc (suc (suc (suc zero))))))))))))) l h f1 f2 f3 f4 f5 f6 f7 f8 f9 f10 f11 f12 f13 f14 = f13 refl
one_of (suc (suc (suc (suc (suc (suc (suc (suc (suc (suc (suc (suc (suc (suc zero)))))))))))))) l h f1 f2 f3 f4 f5 f6 f7 f8 f9 f10 f11 f12 f13 f14 = f14 refl
one_of (suc (suc (suc (suc (suc (suc (suc (suc (suc (suc (suc (suc (suc (suc (suc m))))))))))))))) l h f1 f2 f3 f4 f5 f6 f7 f8 f9 f10 f11 f12 f13 f14 = absurd (omega arith)

-- ---- the numbers of methods

pub method_range : (number : ℕ) → is_method number ≡ true → (1 ≤ number) × (number ≤ 14)
method_range number e = within_range 1 14 number e

position_range : (names : List (List ℕ)) (n : ℕ) (s : List ℕ) {m : ℕ} → position_from n s names ≡ Some m → (n ≤ m) × (m < n + length names)
unfolding position_from
position_range [] n s e = absurd (let z : ◌≡◌ {A = ℕ} 0 1 = cc in omega arith)
position_range (name ∷ names) n s {m} e = by (same s name) e (position_range names (suc n) s)
  where
    by : (t : Bool) → cond t (Some n) (position_from (suc n) s names) ≡ Some m → (position_from (suc n) s names ≡ Some m → (suc n ≤ m) × (m < suc n + length names))
        → (n ≤ m) × (m < n + suc (length names))
    by true e more = let q : n ≡ m = cc in (omega arith, omega arith)
    by false e more = let r = more e in (omega arith, omega arith)

-- a text that is a method has a method's number
pub method_known : (s : List ℕ) {m : ℕ} → method_of s ≡ Some m → is_method m ≡ true
method_known s {m} e =
    let r = position_range method_names 1 s e in
    rw (le-leb 1 m (omega arith), le-leb m 14 (omega (arith, fourteen)))

-- ---- what every name is

unfoldable each : (List ℕ → Bool) → List (List ℕ) → Bool
each p [] = true
each p (name ∷ names) = p name && each p names

each_at : (p : List ℕ → Bool) (names : List (List ℕ)) (k : ℕ) → each p names ≡ true → k < length names → p (get_or names k []) ≡ true
unfolding each
each_at p [] k e h = absurd (omega arith)
each_at p (name ∷ names) zero e h = (and_parts (p name) (each p names) e).0
each_at p (name ∷ names) (suc k) e h = each_at p names k (and_parts (p name) (each p names) e).1 (omega arith)

-- one word of at most nine bytes that a value may have
abbrev is_short : List ℕ → Bool
is_short name = non_empty name && (all (λ b. not (is_blank b)) name && (all is_value name && leb (length name) 9))

pub record Short (name : List ℕ) : Type 0 where
  pub filled : non_empty name ≡ true
  pub unbroken : all (λ b. not (is_blank b)) name ≡ true
  pub printable : all is_value name ≡ true
  pub short : length name ≤ 9

shorts : each is_short method_names ≡ true
unfolding each all method_names
shorts = refl

pub name_short : (number : ℕ) → 1 ≤ number → number ≤ 14 → Short (name_of number)
name_short number l h = go (name_of number) (each_at is_short method_names (number - 1) shorts (omega (arith, fourteen)))
  where
    go : (name : List ℕ) → is_short name ≡ true → Short name
    go name e =
        let p = (and_parts (non_empty name) _ e).1 in
        let q = (and_parts (all (λ b. not (is_blank b)) name) _ p).1 in
        record {
          filled = (and_parts (non_empty name) _ e).0;
          unbroken = (and_parts (all (λ b. not (is_blank b)) name) _ p).0;
          printable = (and_parts (all is_value name) _ q).0;
          short = leb-true (length name) 9 (and_parts (all is_value name) _ q).1;
        }

-- what the answer of a reading says of the number
pub unknown : (o : Option ℕ) {r : Option ℕ} → r ≡ method_from o → r ≡ None → o ≡ None
unknown None h e = refl
unknown (Some n) h e = absurd (let z : ◌≡◌ {A = ℕ} 0 1 = cc in omega arith)

pub known : (o : Option ℕ) {r : Option ℕ} {n : ℕ} → r ≡ method_from o → r ≡ Some n → o ≡ Some n
known None h e = absurd (let z : ◌≡◌ {A = ℕ} 0 1 = cc in omega arith)
known (Some m) h e = cc

-- ---- the refusals of a call that writes a method's name, in their order

module _ (number room : ℕ) (s : List ℕ) where
  pub no_room : is_method number ≡ true → room < length s → refuse_by (method_cause number) (fitted room s) ≡ Err NoRoom
  no_room e h = rw (e, lt-ltb room (length s) h)

  pub fits : is_method number ≡ true → length s ≤ room → refuse_by (method_cause number) (fitted room s) ≡ Ok s
  fits e h = rw (e, le-ltb room (length s) h)
