-- The order of two identifiers' texts by std is that of the keys of a store. Assumes nothing.
use Prim.Native.Nat.{ℕ}
use mathlib.Core.Path.{◌≡◌, refl, ap, ◌∙◌}
use mathlib.Core.List.{List, [], ◌∷◌}
use Rattle.std.specs.Cmp.Lexicographic.{slice_cmp}
use Rattle.std.specs.Ordering.{nat_cmp, ordering_then}
use Rattle.std.specs.declared.cmp.Ordering.{Ordering}
use Rattle.std.specs.declared.cmp.Ordering.TheVariants.{Less, Equal, Greater}
use Rattle.ordered_store.specs.Order.{order, or_next, key_order}
use Rattle.ordered_store.proofs.CompareLaws.{cmp_order}

-- the first of three that decides
three : (o p q : Ordering) → ordering_then o (ordering_then p q) ≡ or_next o (or_next p (or_next q Equal))
three Less p q = refl
three Equal Less q = refl
three Equal Equal Less = refl
three Equal Equal Equal = refl
three Equal Equal Greater = refl
three Equal Greater q = refl
three Greater p q = refl

pub texts_order : (a b c x y z : List ℕ)
    → ordering_then (slice_cmp nat_cmp a x) (ordering_then (slice_cmp nat_cmp b y) (slice_cmp nat_cmp c z)) ≡ key_order (a ∷ b ∷ c ∷ []) (x ∷ y ∷ z ∷ [])
unfolding key_order
texts_order a b c x y z =
    ap (λ o. ordering_then o (ordering_then (slice_cmp nat_cmp b y) (slice_cmp nat_cmp c z))) (cmp_order a x)
    ∙ (ap (λ o. ordering_then (order a x) (ordering_then o (slice_cmp nat_cmp c z))) (cmp_order b y)
    ∙ (ap (λ o. ordering_then (order a x) (ordering_then (order b y) o)) (cmp_order c z)
    ∙ three (order a x) (order b y) (order c z)))
