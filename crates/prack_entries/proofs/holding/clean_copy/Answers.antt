-- `holding::clean_copy` meets its contract: what is held loaded and cleaned, or a time without a list. Assumes nothing.
use mathlib.Core.List.{[]}
use lib.ListN.{length}
use Rattle.limits.specs.Settings.{limits_in}
use Rattle.codec.proofs.CodecLaws.{bytes_all}
use Rattle.prack_body.proofs.BodyLaws.{holds_size}
use Rattle.prack_entries.specs.Places.{Sought}
use Rattle.std.specs.Prelude.{Ok}
use Rattle.prack_entries.proofs.SlotLaws.{Found, found}
use Rattle.prack_entries.proofs.HoldLaws.{renamed, stands_all, copied, begun}
use native.Mathlib.Omega.{arith}
use Rattle.prack_entries.proofs.holding.clean_copy.Goals as goal
use Rattle.prack_entries.proofs.holding.clean_copy.Goals.{In-Ok}

-- a text of which it is the slot, and what is known of it
S : (c : In-Ok) → Sought (limits_in c.args.settings) c.requires.room.1.0 c.args.bytes.now (length c.args.bytes.now) (Ok c.in-Ok.t)
S c = renamed c.requires.room.1.1 c.in-Ok.is

F : (c : In-Ok) → Found (limits_in c.args.settings) c.requires.room.1.0 c.args.bytes.now (length c.args.bytes.now) c.in-Ok.t (S c).list
F c = found c.requires.room.1.0 c.args.bytes.now (length c.args.bytes.now) c.in-Ok.t (bytes_all c.args.bytes.now (λ i. (c.type_inv.bytes i).fits)) (S c)

pub load-n-requires : goal.load-n-requires
load-n-requires c = let f = F (goal.at.load-n-requires c).In-Ok in (f.text_inside, f.end_within, omega (arith, f.body_short c.requires.pending, c.requires.room.0))

pub clean-requires : goal.clean-requires
clean-requires c =
    let i = (goal.at.clean-requires c).In-Ok in
    let n = holds_size (c.load-n.ensures.holds (limits_in c.args.settings) (F i).t (stands_all (F i))) c.requires.pending in
    (n.0, (n.1, omega (arith, c.load-n.auto.body, c.requires.room.0)))

pub returns-in-Ok-clause-lower_bound : goal.returns-in-Ok-clause-lower_bound
returns-in-Ok-clause-lower_bound c =
    let a = c.args in
    holds_size (copied (limits_in a.settings) a.bytes.now a.time (bytes_all a.bytes.now (λ i. (c.type_inv.bytes i).fits)) c.in-Ok.is (c.load-n.ensures.holds (limits_in a.settings)) c.clean.ensures c.requires.room.1.0 c.requires.room.1.1) c.requires.pending

pub returns-in-Ok-clause-by_index : goal.returns-in-Ok-clause-by_index
returns-in-Ok-clause-by_index c =
    let a = c.args in
    λ id w h. copied (limits_in a.settings) a.bytes.now a.time (bytes_all a.bytes.now (λ i. (c.type_inv.bytes i).fits)) c.in-Ok.is (c.load-n.ensures.holds (limits_in a.settings)) c.clean.ensures id w

pub returns-in-Err-clause-lower_bound : goal.returns-in-Err-clause-lower_bound
returns-in-Err-clause-lower_bound c = holds_size (c.begin.ensures (limits_in c.args.settings) [] (omega arith)) c.requires.pending

pub returns-in-Err-clause-by_index : goal.returns-in-Err-clause-by_index
returns-in-Err-clause-by_index c =
    let a = c.args in
    begun (limits_in a.settings) a.bytes.now a.time (bytes_all a.bytes.now (λ i. (c.type_inv.bytes i).fits)) c.in-Err.is (c.begin.ensures (limits_in a.settings))
