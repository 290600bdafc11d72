-- A key of one text against another. Assumes nothing.
use mathlib.Core.Path.{◌≡◌, sym, ap, ◌∙◌}
use mathlib.Core.List.{List, [], ◌∷◌}
use Prim.Native.Nat.{ℕ}
use Rattle.std.specs.declared.cmp.Ordering.{Ordering}
use Rattle.ordered_store.specs.Entries.{Key}
use Rattle.ordered_store.specs.Order.{order, key_order, is_before}
use Rattle.ordered_store.proofs.OrderLaws.{one_text}

-- p is the part that was compared with b, and r the answer
pub told_last : (b : List ℕ) {p a : List ℕ} {r : Ordering} → p ≡ a → r ≡ order p b → r ≡ key_order (a ∷ []) (b ∷ [])
told_last b {p} {a} is e = e ∙ ap (λ (t : List ℕ). order t b) is ∙ sym (one_text a b)

-- whether a key comes before another
pub is_before_lem : (k : Key) {l m : Key} {o r : Ordering} → l ≡ m → r ≡ key_order k l → r ≡ o → is_before o ≡ is_before (key_order k m)
is_before_lem k p e q = ap is_before (sym q ∙ e ∙ ap (key_order k) p)
