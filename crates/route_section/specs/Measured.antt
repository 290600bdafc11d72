-- A step of the code: the routes of a peer's block together with what was measured of them (document 01, "Routes").
use Rattle.std.specs.Prelude.{ℕ, ◌≡◌, List, Err, Ok, Result}
use Rattle.limits.specs.Limits.{rust_limits}
use Rattle.limits.specs.declared.Refusal.{Refusal}
use Rattle.text.specs.Text.{Piece}
use Rattle.route_set.specs.Routes.{routes_of}
use Rattle.route_section.specs.Section.{section_from}
use Rattle.route_section.specs.declared.peer.PeerRoutes.{PeerRoutes}

-- the routes that the block's Record-Route lines give
abbrev pub given_by : PeerRoutes → Result (List Piece) Refusal
given_by p = routes_of rust_limits p.block.now

-- count and size are those of its routes' section
abbrev pub Measured : PeerRoutes → Type 0
Measured p = section_from (given_by p) ≡ Ok (p.count, p.size)

-- those of this block
abbrev pub MeasuredIn : List ℕ → PeerRoutes → Type 0
MeasuredIn block p = (p.block.now ≡ block) × Measured p

-- the count and the size of what was measured, or the cause
abbrev pub counted_in : Result PeerRoutes Refusal → Result (ℕ × ℕ) Refusal
counted_in (Ok p) = Ok (p.count, p.size)
counted_in (Err cause) = Err cause
