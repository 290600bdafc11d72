-- `route_set::scan_routes` meets its contract: at each turn the whole scan is that of the elements ahead. Assumes nothing.
use native.Mathlib.Omega.{arith}
use mathlib.Core.Path.{refl, sym, ap, ◌∙◌}
use mathlib.Core.Bool.{true≢false}
use Rattle.std.specs.Prelude.{List, Ok}
use Rattle.std.proofs.lemmas.Result.{err_from_is_err_and}
use Rattle.limits.specs.Limits.{rust_limits}
use Rattle.text.specs.Text.{Piece}
use Rattle.text.specs.Pieces.{piece_of}
use Rattle.msg.specs.Lines.{values_ahead}
use Rattle.route_set.specs.Scan.{scan}
use Rattle.route_set.proofs.ScanLaws.{answer_none, answer_some, answer_err, ahead, scan_full, scan_unread, scan_long, scan_hit, scan_more, elements_among, elements_by, open_value, no_more}
use Rattle.route_set.proofs.routes.scan_routes.Goals as goal
use Rattle.route_set.proofs.routes.scan_routes.Goals.{in-None, in-Some+in-Some-e+then-held-ge-MAX_ROUTE_SET_SIZE}

pub lines-init : goal.lines-init
lines-init c = (
  ap (scan rust_limits c.args.wanted 0) (elements_by _ ∙ ap elements_among (sym (rw c.into_iter-v-iterator.ensures.into_iter_gives c.of-v-items.ensures))),
  refl,
  omega arith,
)

pub loop-e-init : goal.loop-e-init
loop-e-init c =
    let l = c.lines in
    let rest = elements_among (values_ahead c.next.new.self) in
    let s = scan rust_limits c.args.wanted l.held in (
      l.invariant.0 ∙ ap s (
          open_value _ _ _ c.in-Some.ensures.steps
          ∙ ap (λ (es : List Piece). ahead c.in-Some.v.place es rest) (sym (rw c.into_iter-e-iterator.ensures.into_iter_gives c.of-e-items.ensures))
          ),
      l.invariant.1,
      l.invariant.2,
    )

pub returns-in_err-u : goal.returns-in_err-u
returns-in_err-u c =
    let p = err_from_is_err_and c.from_residual.result c.from_residual.ensures.1 in
    rw (p.1, p.2) (sym (c.loop-e.invariant.0 ∙ scan_long _ _ _ _ _ _ _ c.in-Some-e.ensures.steps (omega arith) _ (answer_err _ _ _ c.read_element.ensures c.in_err-u.was)))

pub returns-then-held-wanted : goal.returns-then-held-wanted
returns-then-held-wanted c =
    rw c.moved.ensures (sym (
    c.loop-e.invariant.0
    ∙ scan_hit _ _ _ _ _ _ _ c.in-Some-e.ensures.steps (omega arith) (piece_of c.in-Some-2.u) (answer_some _ _ _ c.read_element.ensures (c.in_ok-u.was ∙ ap Ok c.in-Some-2.is)) c.if-held-wanted.true
    ))

pub loop-e-preserved-in-Some-2 : goal.loop-e-preserved-in-Some-2
loop-e-preserved-in-Some-2 c =
    let l = c.loop-e in (
      l.invariant.0
          ∙ scan_more _ _ _ _ _ _ _ c.in-Some-e.ensures.steps (omega arith) (piece_of c.in-Some-2.u) (answer_some _ _ _ c.read_element.ensures (c.in_ok-u.was ∙ ap Ok c.in-Some-2.is)) c.if-held-wanted.false,
      l.invariant.1,
      omega arith,
    )

pub loop-e-preserved : goal.loop-e-preserved
loop-e-preserved c =
    let l = c.loop-e in (
      l.invariant.0 ∙ scan_unread _ _ _ _ _ _ _ c.in-Some-e.ensures.steps (omega arith) (answer_none _ _ c.read_element.ensures (c.in_ok-u.was ∙ ap Ok c.in_default.is)),
      l.invariant.1,
      l.invariant.2,
    )

pub returns-then-full : goal.returns-then-full
returns-then-full c =
    elim c.match-next.branch [
      | in-None w ↦ absurd (true≢false (sym c.if-full.true ∙ w.full-is ∙ c.lines.invariant.1))
      | in-Some+in-Some-e+then-held-ge-MAX_ROUTE_SET_SIZE w ↦ sym (w.loop-e.invariant.0 ∙ scan_full _ _ _ _ _ _ _ w.in-Some-e.ensures.steps w.if-held-ge-MAX_ROUTE_SET_SIZE.true)
    ]

pub returns : goal.returns
returns c =
    elim c.match-next.branch [
      | in-None w ↦ rw w.held-is (sym (c.lines.invariant.0 ∙ no_more _ _ _ w.in-None.ensures.steps.0))
      | in-Some+in-Some-e+then-held-ge-MAX_ROUTE_SET_SIZE w ↦ absurd (true≢false (sym w.full-is ∙ c.if-full.false))
    ]
