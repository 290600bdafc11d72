-- Steps of the code: a record with the routes that a response gives, reversed over all its Record-Route lines (document 01, "Routes"; RFC 3261 section
-- 12.1.2), and with other numbers. What a response makes of a record is `response_update` (dialog_rules/specs/Updates.antt).
use Rattle.limits.specs.declared.Refusal.{Refusal}
use Rattle.std.specs.Prelude.{true, List, Err, Ok, Result}
use Rattle.text.specs.Text.{Piece}
use Rattle.record.specs.Record.{Numbers, Record}
use Rattle.record.specs.Changes.{with_numbers, with_routes}
use Rattle.route_section.specs.Section.{route_texts}

-- its own routes where those of the response are refused
abbrev pub rerouted_by : Result (List Piece) Refusal → Record → Record
rerouted_by (Err cause) r = r
rerouted_by (Ok ps) r = with_routes (route_texts true ps) r

abbrev pub renewed_by : Numbers → Result (List Piece) Refusal → Record → Record
renewed_by x o r = with_numbers x (rerouted_by o r)
