-- `image::read_routes` meets its contract: at each turn the whole reading is that of the routes left, gone on with. Assumes nothing.
use native.Mathlib.Omega.{arith}
use Prim.Native.Nat.{◌<◌}
use mathlib.Core.Path.{sym, ◌∙◌}
use Rattle.std.proofs.Common.{rules}
use lib.ListN.{length, drop}
use Rattle.record.specs.Record.{uri_text}
use Rattle.image.proofs.AnswerLaws.{UriGot, uri_got, uri_not}
use Rattle.image.proofs.RouteLaws.{turn, stop, done, no_count, many, start}
use Rattle.image.proofs.parts.read_routes.Goals as goal
use Rattle.image.proofs.parts.read_routes.Goals.{In_ok-t, then-count-eq0-via-then-count-eq0, then-count-eq0-via-else-count-eq0+then-count-gt-MAX_ROUTE_SET_SIZE}

-- the route that a turn reads
route : (c : In_ok-t) → UriGot (c.args.bytes.now) c.loop-read.end c.in_ok-t.t c.in_ok-t.field-0-1
route c = uri_got (c.args.bytes.now) c.loop-read.end c.loop-read.invariant.1.0 (sym c.read_uri_text.ensures ∙ c.in_ok-t.was)

pub returns-then-count-eq0 : goal.returns-then-count-eq0
returns-then-count-eq0 c =
    let a = c.args in
    elim c.then-count-eq0.branch [
      | then-count-eq0-via-then-count-eq0 w ↦ no_count a.bytes.now a.at (search rules) (search rules) w.if-count-eq0.true
      | then-count-eq0-via-else-count-eq0+then-count-gt-MAX_ROUTE_SET_SIZE w ↦ many a.bytes.now a.at (search rules) (search rules) w.if-count-gt-MAX_ROUTE_SET_SIZE.true
    ]

pub loop-read-init : goal.loop-read-init
loop-read-init c =
    let a = c.args in
    let h : a.at < length a.bytes.now = search rules in
    (omega (arith, h), (omega (arith, h), start a.bytes.now a.at h (search rules) (omega arith) c.if-count-gt-MAX_ROUTE_SET_SIZE.false))

pub returns-in_err-t : goal.returns-in_err-t
returns-in_err-t c =
    c.from_residual-in_err-t.ensures ∙ sym (c.loop-read.invariant.1.1 ∙ stop (c.args.bytes.now) c.loop-read.read (c.wide-count.result) c.loop-read.end c.loop-read-test.true (uri_not c.loop-read.end (uri_text.read (drop c.loop-read.end (c.args.bytes.now))) (sym c.read_uri_text.ensures ∙ c.in_err-t.was)))

pub end-end-requires : goal.end-end-requires
end-end-requires c = omega (arith, (route (goal.at.end-end-requires c).In_ok-t).got.within)

pub loop-read-preserved : goal.loop-read-preserved
loop-read-preserved c =
    rw c.end-end.ensures (omega arith, ((route (goal.at.loop-read-preserved c).In_ok-t).got.within, c.loop-read.invariant.1.1 ∙ turn (c.args.bytes.now) c.loop-read.read (c.wide-count.result) c.loop-read.end c.loop-read-test.true (route (goal.at.loop-read-preserved c).In_ok-t)))

pub returns : goal.returns
returns c = sym (c.loop-read.invariant.1.1 ∙ done (c.args.bytes.now) c.loop-read.read (c.wide-count.result) c.loop-read.end (omega arith))
