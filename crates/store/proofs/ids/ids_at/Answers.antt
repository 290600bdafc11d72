-- `ids::ids_at` meets its contract: each text lies between the end of the one before it and its own. Assumes nothing.
use Prim.Native.Nat.{◌+◌}
use native.Mathlib.Omega.{arith}
use Rattle.record.specs.Record.{fields_of}
use Rattle.record_walk.specs.Walk.{EndsOf}
use Rattle.store.proofs.ids.ids_at.Goals as goal
use Rattle.store.proofs.ids.ids_at.Goals.{After-id_ends-ends}

-- the ends of the texts of the record that stands there
known : (c : After-id_ends-ends) → EndsOf (c.args.p + 2) (fields_of c.requires.reading.value).first c.id_ends-ends.result
known c = c.id_ends-ends.ensures.ends c.requires.reading c.requires.reads

pub span_to-requires : goal.span_to-requires
span_to-requires c = let e = known (goal.at.span_to-requires c).After-id_ends-ends in omega (arith, e.0)

pub span_to-requires-2 : goal.span_to-requires-2
span_to-requires-2 c = let e = known (goal.at.span_to-requires-2 c).After-id_ends-ends in omega (arith, e.1)

pub span_to-requires-3 : goal.span_to-requires-3
span_to-requires-3 c = let e = known (goal.at.span_to-requires-3 c).After-id_ends-ends in omega (arith, e.2)
