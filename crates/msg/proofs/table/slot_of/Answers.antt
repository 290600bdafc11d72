-- `msg::slot_of` meets its contract: the place of the first name of the table that a line has. Assumes nothing.
use Prim.Native.Nat.{suc}
use Rattle.std.proofs.Common.{◌≡◌, ℕ, ◌+◌, ◌<◌, Bool, true, false, cond, List, [], ◌∷◌, length, refl, ap, subst, ◌∙◌, arith, rules}
use mathlib.Core.List.{map}
use denote.Bor.{Bor}
use Rattle.std.specs.Prelude.{None, Option, Some}
use Rattle.std.specs.List as lists
use Rattle.std.specs.Slice.Iter.{iter_rest}
use Rattle.std.proofs.lemmas.Iterator.{YieldsList-from_slice}
use Rattle.std.proofs.lemmas.Iterator.Search.{position_from_yields_List}
use Rattle.std.proofs.lemmas.Iterator.Adapters.{position_from-zero}
use borrow.Author.Tests.{tests}
use Rattle.msg.specs.Block.{named}
use Rattle.msg.specs.Table.{names, slot_in, SlotIs}
use Rattle.msg.proofs.table.slot_of.Goals as goal

-- the test of a name, and the place of the first that passes
abbrev hit : List ℕ → Bor (List ℕ) → Bool
hit name x = named x.now name

-- of n names, the first of which stands at place i, the line has the one after s others
abbrev Placed : ℕ → ℕ → ℕ → Option ℕ → Type 0
Placed n s i None = n ≡ s
Placed n s i (Some k) = (k ≡ i + s) × (k < i + n)

one_more : (n s i : ℕ) (t : Bool) (o : Option ℕ) → Placed n s (i + 1) o → Placed (suc n) (cond t 0 (suc s)) i (cond t (Some i) o)
one_more n s i true o h = (omega arith, omega arith)
one_more n s i false None h = ap suc h
one_more n s i false (Some k) h = (omega (arith, h.0), omega (arith, h.1))

abbrev texts : List (Bor (List ℕ)) → List (List ℕ)
texts ns = map (λ (x : Bor (List ℕ)). x.now) ns

placed : (name : List ℕ) (ns : List (Bor (List ℕ))) (i : ℕ) → Placed (length (texts ns)) (slot_in (texts ns) name) i (lists.position_from (hit name) i ns)
unfolding slot_in
placed name [] i = refl
placed name (x ∷ ns) i = one_more (length (texts ns)) (slot_in (texts ns) name) i (named x.now name) (lists.position_from (hit name) (i + 1) ns) (placed name ns (i + 1))

told : (name : List ℕ) (o : Option ℕ) → Placed (length names) (slot_in names name) 0 o → SlotIs name o
told name None h = h
told name (Some k) h = (omega (arith, h.0), omega (arith, h.1))

pub returns : goal.returns
returns c =
    let name = c.args.name.now in
    let ns : List (Bor (List ℕ)) = iter_rest c.iter.result in
    let p = position_from_yields_List (hit name) c.position.new.self _ c.position.result c.position.ensures.ran (YieldsList-from_slice ns refl) (λ x b q k. search (rules, tests)) in
    told name c.position.result (rw (p ∙ position_from-zero (hit name) ns) (subst (λ (xs : List (List ℕ)). Placed (length xs) (slot_in xs name) 0 (lists.position_from (hit name) 0 ns)) (ap texts c.iter.ensures.rest) (placed name ns 0)))
