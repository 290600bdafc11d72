-- `image::read_tail` meets its contract: each field is read where the one before it ends. Assumes nothing.
use Prim.Native.Nat.{◌≤◌}
use mathlib.Core.Path.{◌∙◌}
use borrow.Author.Rules.{rules}
use lib.ListN.{length}
use Rattle.record.specs.Record.{stands}
use Rattle.image.proofs.AnswerLaws.{NumberGot, OptionalGot, SideGot, RoutesGot}
use Rattle.image.proofs.SectionLaws.{number_told, number_none, optional_told, optional_none, side_told, side_none, routes_told, routes_none, tail_none_2, tail_none_3, tail_none_4, tail_none_5, tail_none_6, tail_whole}
use Rattle.image.proofs.sections.read_tail.Goals as goal
use Rattle.image.proofs.sections.read_tail.Goals.{In_ok-local, In_ok-remote, In_ok-last_ack, In_ok-seconds, In_ok-refresher, In_ok-route_count}

-- the local number
first : (c : In_ok-local) → NumberGot (stands 7 c.args.map) c.args.bytes.now c.args.at c.in_ok-local.local c.in_ok-local.b
first c = number_told c.args.bytes.now c.args.at c.bit.ensures (λ e. search rules) c.where_stands.ensures.absent c.requires c.in_ok-local.was

-- the remote number
second : (c : In_ok-remote) → c.in_ok-local.b ≤ length c.args.bytes.now → NumberGot (stands 8 c.args.map) c.args.bytes.now c.in_ok-local.b c.in_ok-remote.remote c.in_ok-remote.c
second c h = number_told c.args.bytes.now c.in_ok-local.b c.bit-2.ensures (λ e. search rules) c.where_stands-2.ensures.absent h c.in_ok-remote.was

-- the last ACK
third : (c : In_ok-last_ack) → c.in_ok-remote.c ≤ length c.args.bytes.now → OptionalGot (stands 9 c.args.map) c.args.bytes.now c.in_ok-remote.c c.in_ok-last_ack.last_ack c.in_ok-last_ack.d
third c h = optional_told c.args.bytes.now c.in_ok-remote.c c.bit-3.ensures (λ e. search rules) c.where_stands-3.ensures.absent h c.in_ok-last_ack.was

-- the interval
fourth : (c : In_ok-seconds) → c.in_ok-last_ack.d ≤ length c.args.bytes.now → OptionalGot (stands 10 c.args.map) c.args.bytes.now c.in_ok-last_ack.d c.in_ok-seconds.seconds c.in_ok-seconds.e
fourth c h = optional_told c.args.bytes.now c.in_ok-last_ack.d c.bit-4.ensures (λ e. search rules) c.where_stands-4.ensures.absent h c.in_ok-seconds.was

-- who refreshes
fifth : (c : In_ok-refresher) → c.in_ok-seconds.e ≤ length c.args.bytes.now → SideGot (stands 11 c.args.map) c.args.bytes.now c.in_ok-seconds.e c.in_ok-refresher.refresher c.in_ok-refresher.routes
fifth c h = side_told c.args.bytes.now c.in_ok-seconds.e c.bit-5.ensures (λ e. search rules) c.where_stands-5.ensures.absent h c.in_ok-refresher.was

-- the routes
sixth : (c : In_ok-route_count) → c.in_ok-refresher.routes ≤ length c.args.bytes.now → RoutesGot (stands 12 c.args.map) c.args.bytes.now c.in_ok-refresher.routes c.in_ok-route_count.route_count c.in_ok-route_count.end
sixth c h = routes_told c.args.bytes.now c.in_ok-refresher.routes c.bit-6.ensures (λ e. search rules) c.where_stands-6.ensures.absent h c.in_ok-route_count.was

pub where_stands-requires-2 : goal.where_stands-requires-2
where_stands-requires-2 c =
    let p = goal.at.where_stands-requires-2 c in
    let h = (first p.In_ok-local).got.within in
    λ e. search rules

pub returns-in_err-remote : goal.returns-in_err-remote
returns-in_err-remote c =
    let a = c.args in
    let p = goal.at.returns-in_err-remote c in
    let x = first p.In_ok-local in
    c.from_residual-in_err-remote.ensures ∙ tail_none_2 a.map a.bytes.now a.at x (number_none a.bytes.now c.in_ok-local.b c.bit-2.ensures (λ e. search rules) c.where_stands-2.ensures.absent c.in_err-remote.was)

pub where_stands-requires-3 : goal.where_stands-requires-3
where_stands-requires-3 c =
    let p = goal.at.where_stands-requires-3 c in
    let h = (second p.In_ok-remote (first p.In_ok-local).got.within).got.within in
    λ e. search rules

pub returns-in_err-last_ack : goal.returns-in_err-last_ack
returns-in_err-last_ack c =
    let a = c.args in
    let p = goal.at.returns-in_err-last_ack c in
    let x = first p.In_ok-local in
    let y = second p.In_ok-remote x.got.within in
    c.from_residual-in_err-last_ack.ensures ∙ tail_none_3 a.map a.bytes.now a.at x y (optional_none a.bytes.now c.in_ok-remote.c c.bit-3.ensures (λ e. search rules) c.where_stands-3.ensures.absent c.in_err-last_ack.was)

pub where_stands-requires-4 : goal.where_stands-requires-4
where_stands-requires-4 c =
    let p = goal.at.where_stands-requires-4 c in
    let h = (third p.In_ok-last_ack (second p.In_ok-remote (first p.In_ok-local).got.within).got.within).got.within in
    λ e. search rules

pub returns-in_err-seconds : goal.returns-in_err-seconds
returns-in_err-seconds c =
    let a = c.args in
    let p = goal.at.returns-in_err-seconds c in
    let x = first p.In_ok-local in
    let y = second p.In_ok-remote x.got.within in
    let z = third p.In_ok-last_ack y.got.within in
    c.from_residual-in_err-seconds.ensures ∙ tail_none_4 a.map a.bytes.now a.at x y z (optional_none a.bytes.now c.in_ok-last_ack.d c.bit-4.ensures (λ e. search rules) c.where_stands-4.ensures.absent c.in_err-seconds.was)

pub where_stands-requires-5 : goal.where_stands-requires-5
where_stands-requires-5 c =
    let p = goal.at.where_stands-requires-5 c in
    let h = (fourth p.In_ok-seconds (third p.In_ok-last_ack (second p.In_ok-remote (first p.In_ok-local).got.within).got.within).got.within).got.within in
    λ e. search rules

pub returns-in_err-refresher : goal.returns-in_err-refresher
returns-in_err-refresher c =
    let a = c.args in
    let p = goal.at.returns-in_err-refresher c in
    let x = first p.In_ok-local in
    let y = second p.In_ok-remote x.got.within in
    let z = third p.In_ok-last_ack y.got.within in
    let u = fourth p.In_ok-seconds z.got.within in
    c.from_residual-in_err-refresher.ensures ∙ tail_none_5 a.map a.bytes.now a.at x y z u (side_none a.bytes.now c.in_ok-seconds.e c.bit-5.ensures (λ e. search rules) c.where_stands-5.ensures.absent c.in_err-refresher.was)

pub where_stands-requires-6 : goal.where_stands-requires-6
where_stands-requires-6 c =
    let p = goal.at.where_stands-requires-6 c in
    let h = (fifth p.In_ok-refresher (fourth p.In_ok-seconds (third p.In_ok-last_ack (second p.In_ok-remote (first p.In_ok-local).got.within).got.within).got.within).got.within).got.within in
    λ e. search rules

pub returns-in_err-route_count : goal.returns-in_err-route_count
returns-in_err-route_count c =
    let a = c.args in
    let p = goal.at.returns-in_err-route_count c in
    let x = first p.In_ok-local in
    let y = second p.In_ok-remote x.got.within in
    let z = third p.In_ok-last_ack y.got.within in
    let u = fourth p.In_ok-seconds z.got.within in
    let v = fifth p.In_ok-refresher u.got.within in
    c.from_residual-in_err-route_count.ensures ∙ tail_none_6 a.map a.bytes.now a.at x y z u v (routes_none a.bytes.now c.in_ok-refresher.routes c.bit-6.ensures (λ e. search rules) c.where_stands-6.ensures.absent c.in_err-route_count.was)

pub returns : goal.returns
returns c =
    let a = c.args in
    let p = goal.at.returns c in
    let x = first p.In_ok-local in
    let y = second p.In_ok-remote x.got.within in
    let z = third p.In_ok-last_ack y.got.within in
    let u = fourth p.In_ok-seconds z.got.within in
    let v = fifth p.In_ok-refresher u.got.within in
    tail_whole a.map a.bytes.now a.at x y z u v (sixth c v.got.within)
