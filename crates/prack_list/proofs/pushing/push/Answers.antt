-- `pushing::push` meets its contract: room, the entry, and the count. Assumes nothing.
use Rattle.prack_body.specs.Layout.{PendingFormed}
use Rattle.prack_list.specs.Steps.{pending_in}
use Rattle.prack_list.proofs.PushLaws.{push_law}
use native.Mathlib.Omega.{arith}
use Rattle.prack_list.proofs.pushing.push.Goals as goal

pub returns : goal.returns
returns c =
    let a = c.args in
    let p : PendingFormed (pending_in a.response) = record { rseq_fits = omega arith; cseq_fits = omega arith; method_known = c.requires.room.0; code_fits = omega arith; time_fits = omega arith } in
    λ t h. push_law h (omega arith) c.make_room-count.ensures.upper_bound (omega arith) ((c.make_room-count.ensures.kept) t h) (pending_in a.response) p (c.write_entry-end.ensures.out_after) c.write_entry-end.ensures.value
