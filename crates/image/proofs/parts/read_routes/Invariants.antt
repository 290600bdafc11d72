use Prim.Native.Nat.{◌-◌, ◌≤◌}
use mathlib.Core.Path.{◌≡◌}
use mathlib.Core.Bool.{true}
use lib.ListN.{length, drop}
use Rattle.codec.specs.Codec.{read_all}
use Rattle.record.specs.Record.{uri_text, routes_field}
use Rattle.image.specs.Places.{routes_at}
use Rattle.image.proofs.RouteLaws.{resume}
use Rattle.image.proofs.parts.read_routes.Given as goal

abbrev pub invariant-loop-read : goal.invariant-loop-read
invariant-loop-read l = (l.read ≤ l.count) × ((l.end ≤ length l.bytes) × (routes_at l.at ((routes_field true).read (drop l.at l.bytes)) ≡ resume l.read l.end (read_all uri_text (l.count - l.read) (drop l.end l.bytes))))
