-- Steps of the code: the routes' section of a record image, made of a block's Record-Route lines (document 01, "Record image" and "Routes"): a count byte, then
-- the routes' texts, each after two length bytes; no bytes where there are no routes. As received, or reversed over all lines.
use Rattle.std.specs.Prelude.{ℕ, ◌≤◌, Bool, false, List, [], map, length, Err, Ok, Result}
use Rattle.limits.specs.declared.Refusal.{Refusal}
use Rattle.text.specs.Text.{Piece}
use Rattle.route_set.specs.Routes.{in_order}
use Rattle.record.specs.Record.{is_filled, routes_field}

-- the section of these texts
abbrev pub section_of : List (List ℕ) → List ℕ
section_of l = (routes_field (is_filled l)).write l

-- the texts of routes, as received or reversed
abbrev pub route_texts : Bool → List Piece → List (List ℕ)
route_texts reversed ps = map (λ (p : Piece). p.text) (in_order reversed ps)

-- the section of the routes that were read; no bytes where they were refused
abbrev pub section_in : Bool → Result (List Piece) Refusal → List ℕ
section_in reversed (Err cause) = []
section_in reversed (Ok ps) = section_of (route_texts reversed ps)

-- the answer of the measuring: how many routes there are, and how many bytes their section has, in either order
abbrev pub section_from : Result (List Piece) Refusal → Result (ℕ × ℕ) Refusal
section_from (Err cause) = Err cause
section_from (Ok ps) = Ok (length ps, length (section_of (route_texts false ps)))

-- a section's count and bytes that were measured are small
abbrev pub Small : Result (ℕ × ℕ) Refusal → Type 0
Small (Ok (count, size)) = (count ≤ 50) × (size ≤ 500000)
Small (Err cause) = Unit {0}
