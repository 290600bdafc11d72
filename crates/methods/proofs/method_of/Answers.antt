-- `methods::method_of` meets its contract: the place of the first name that is the same text, and one more. Assumes nothing.
use Prim.Native.Nat.{suc}
use Rattle.std.proofs.Common.{◌≡◌, ℕ, ◌+◌, Bool, true, false, cond, List, [], ◌∷◌, refl, sym, ap, ◌∙◌, arith, rules}
use mathlib.Core.List.{map}
use denote.Bor.{Bor}
use Rattle.std.specs.Prelude.{None, Option, Some, MatchOption}
use Rattle.std.specs.Option.{option_map, IsSomeAnd}
use Rattle.std.specs.List as lists
use Rattle.std.specs.Slice.Iter.{iter_rest}
use Rattle.std.proofs.lemmas.Iterator.{YieldsList-from_slice}
use Rattle.std.proofs.lemmas.Iterator.Search.{position_from_yields_List}
use Rattle.std.proofs.lemmas.Iterator.Adapters.{position_from-zero}
use borrow.Author.Tests.{tests}
use Rattle.text.specs.Text.{same}
use Rattle.methods.specs.Methods.{method_names, position_from, method_of, method_from}
use Rattle.methods.proofs.method_of.Goals as goal

-- the test of a name, and its number, which is one more than its place
abbrev is_text : List ℕ → Bor (List ℕ) → Bool
is_text s x = same s x.now

one_more : (s : List ℕ) (ns : List (Bor (List ℕ))) (i n : ℕ) → n ≡ i + 1 → option_map (λ (k : ℕ). k + 1) (lists.position_from (is_text s) i ns) ≡ position_from n s (map (λ (x : Bor (List ℕ)). x.now) ns)
unfolding position_from
one_more s [] i n h = refl
one_more s (x ∷ ns) i n h = by (same s x.now) (one_more s ns (i + 1) (suc n) (omega arith))
  where
    by : (t : Bool) → option_map (λ (k : ℕ). k + 1) (lists.position_from (is_text s) (i + 1) ns) ≡ position_from (suc n) s (map (λ (y : Bor (List ℕ)). y.now) ns)
        → option_map (λ (k : ℕ). k + 1) (cond t (Some i) (lists.position_from (is_text s) (i + 1) ns)) ≡ cond t (Some n) (position_from (suc n) s (map (λ (y : Bor (List ℕ)). y.now) ns))
    by true e = ap Some (sym h)
    by false e = e

-- what `map` makes of a place
mapped : {Q : ℕ → ℕ → Type 0} (o r : Option ℕ) → MatchOption o (r ≡ None) (λ x. IsSomeAnd r (Q x)) → ((x y : ℕ) → Q x y → y ≡ x + 1) → r ≡ option_map (λ (k : ℕ). k + 1) o
mapped None r h q = h
mapped (Some x) (Some y) h q = ap Some (q x y h)
mapped (Some x) None h q = absurd h

same_option : (o : Option ℕ) → o ≡ method_from o
same_option None = refl
same_option (Some n) = refl

pub returns : goal.returns
unfolding method_names
returns c =
    let s = c.args.s.now in
    let ns : List (Bor (List ℕ)) = iter_rest c.iter.result in
    let p = position_from_yields_List (is_text s) c.position.new.self _ c.position.result c.position.ensures.ran (YieldsList-from_slice ns refl) (λ x b q k. search (rules, tests)) in
    mapped c.position.result c.map.result c.map.ensures.cases (λ x y q. search rules)
    ∙ ap (option_map (λ (k : ℕ). k + 1)) (p ∙ position_from-zero (is_text s) ns)
    ∙ one_more s ns 0 1 (omega arith)
    ∙ ap (λ (xs : List (Bor (List ℕ))). position_from 1 s (map (λ (x : Bor (List ℕ)). x.now) xs)) c.iter.ensures.rest
    ∙ same_option _
