-- A step of the code: how many bytes stand before the first cut (document 01, "Routes"; see Parts).
use Rattle.std.specs.Prelude.{ℕ, suc, Bool, cond, List, [], ◌∷◌}
use Rattle.route_set.specs.Parts.{is_cut, quote_after, depth_after}

unfoldable pub cut_length : Bool → ℕ → List ℕ → ℕ
cut_length quoted depth [] = 0
cut_length quoted depth (b ∷ s) = cond (is_cut quoted depth b) 0 (suc (cut_length (quote_after quoted b) (depth_after depth b) s))
