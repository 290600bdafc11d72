-- Which of two keys comes first: by the bytes of their texts, the first text that differs deciding; a text that is a proper prefix of another comes
-- before it. Document 01, "Intervals, PRACK, RSeq": the layouts are the team's, with "one image for each content". docs/LAYOUTS.md, "The RSeq store" and "The
-- PRACK store": both keep their entries in this order. `distinct` sorts the keys of records by that of texts.
use Rattle.std.specs.Prelude.{ℕ, Bool, true, false, cond, List, [], ◌∷◌, ltb}
use Rattle.std.specs.declared.cmp.Ordering.{Ordering}
use Rattle.std.specs.declared.cmp.Ordering.TheVariants.{Less, Equal, Greater}

-- the second where the first doesn't decide
abbrev pub or_next : Ordering → Ordering → Ordering
or_next Less next = Less
or_next Equal next = next
or_next Greater next = Greater

-- two bytes
abbrev pub byte_order : ℕ → ℕ → Ordering
byte_order x y = cond (ltb x y) Less (cond (ltb y x) Greater Equal)

-- two texts
unfoldable pub order : List ℕ → List ℕ → Ordering
order [] [] = Equal
order [] (y ∷ t) = Less
order (x ∷ s) [] = Greater
order (x ∷ s) (y ∷ t) = or_next (byte_order x y) (order s t)

-- two keys: lists of texts
unfoldable pub key_order : List (List ℕ) → List (List ℕ) → Ordering
key_order [] [] = Equal
key_order [] (t ∷ ts) = Less
key_order (s ∷ ss) [] = Greater
key_order (s ∷ ss) (t ∷ ts) = or_next (order s t) (key_order ss ts)

abbrev pub is_before : Ordering → Bool
is_before Less = true
is_before Equal = false
is_before Greater = false

abbrev pub is_same : Ordering → Bool
is_same Less = false
is_same Equal = true
is_same Greater = false
