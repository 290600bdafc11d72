-- A step of the code: the walk over the records of bytes that are whole records. Each turn gives the place of a record and goes on at the end of its image.
use Rattle.std.specs.Prelude.{ℕ, ◌≤◌, ◌<◌, ◌≡◌, length, None, Option, Some}
use Rattle.record_walk.specs.Walk.{At, end_at}
use Rattle.record_walk.specs.declared.records.Records.{Records}

-- from a place on, the record there is given next, and the walk stands at its end; none is given where no bytes are left
abbrev pub StepsRecord : Records → Option ℕ → Records → Type 0
StepsRecord r None t = (length r.bytes.now ≤ r.at) × ((t.bytes.now ≡ r.bytes.now) × (t.at ≡ r.at))
StepsRecord r (Some at) t = (at < length r.bytes.now) × (at ≡ r.at) × At r.bytes.now at × (t.bytes.now ≡ r.bytes.now) × (t.at ≡ end_at r.bytes.now at)
