-- The routes of one record given as its image: where the text of each lies. Document 01, "Record image": routes are a count byte, then texts; a
-- text has two length bytes, which are no part of it.
use Rattle.std.specs.Prelude.{ℕ, zero, suc, ◌+◌, List, [], ◌∷◌, None, Ok, Option, Result, Some}
use Rattle.limits.specs.Outcome.{and_then}
use Rattle.limits.specs.declared.Refusal.{Refusal}
use Rattle.text.specs.Text.{Piece}
use Rattle.record.specs.Record.{Record}
use Rattle.codec.specs.Places.{text_end}
use Rattle.image.specs.Places.{record_places}
use Rattle.dialog_rules.specs.OneImage.{one_record}

-- of texts that lie one after another from a place on, the one at an index from 0; none from their count on
unfoldable pub text_at : ℕ → ℕ → List (List ℕ) → Option Piece
text_at at index [] = None
text_at at zero (t ∷ ts) = Some (record { place = at + 2; text = t })
text_at at (suc index) (t ∷ ts) = text_at (text_end at t) index ts

-- the texts lie after the count byte
abbrev pub route_at : ℕ → Record → Option Piece
route_at index r = text_at ((record_places 0 r).routes + 1) index r.routes

-- 3; then the route at the index, if there is one
abbrev pub image_route : List ℕ → ℕ → Result (Option Piece) Refusal
image_route bytes index = and_then (one_record bytes) (λ r. Ok (route_at index r))
