-- `msg::header_value` meets its contract: the value's place lies within the block, and the part starts there. Assumes nothing.
use mathlib.Core.Path.{sym, ◌∙◌}
use Rattle.msg.specs.Block.{first_named, lines_of}
use Rattle.msg.proofs.LookupLaws.{Says, found_at, said_fits}
use native.Mathlib.Omega.{arith}
use Rattle.msg.proofs.header_value.Goals as goal
use Rattle.msg.proofs.header_value.Goals.{In-Some}

-- what the look-up said of the block
found : (c : In-Some) → Says c.args.block.now (first_named c.args.name.now (lines_of c.args.block.now)) c.in-Some.v c.in-Some.field-0-1
found c = found_at c.args.block.now c.args.name.now 0 _ _ (omega arith) (sym c.find.ensures ∙ c.in-Some.is)

pub end-requires : goal.end-requires
end-requires c = omega (arith, said_fits _ _ _ _ (found (goal.at.end-requires c).In-Some))

pub slice_bounds-result-end-2 : goal.slice_bounds-result-end-2
slice_bounds-result-end-2 c = omega (arith, said_fits _ _ _ _ (found (goal.at.slice_bounds-result-end-2 c).In-Some))
