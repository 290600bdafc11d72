-- `route_section::fill_routes` meets its contract: at each turn the whole is what is held, filled with the elements ahead. Assumes nothing.
use native.Mathlib.Omega.{arith}
use Prim.Native.Nat.{ℕ, ◌+◌, ◌≤◌}
use mathlib.Core.Path.{◌≡◌, refl, sym, ap, subst, ◌∙◌}
use mathlib.Core.Bool.{true≢false}
use mathlib.Core.List.{List, ◌++◌}
use lib.ListN.{length}
use Rattle.std.specs.Prelude.{Ok}
use Rattle.std.proofs.lemmas.Result.{err_from_is_err_and}
use Rattle.limits.specs.Limits.{rust_limits}
use Rattle.text.specs.Text.{Piece}
use Rattle.text.specs.Pieces.{piece_of}
use Rattle.msg.specs.Block.{lines_of, all_named}
use Rattle.msg.specs.Lines.{values_of, values_ahead}
use Rattle.route_set.specs.Elements.{elements_ahead}
use Rattle.route_set.specs.Parts.{header_values}
use Rattle.route_set.specs.Routes.{record_route_name}
use Rattle.route_set.proofs.ScanLaws.{answer_none, answer_some, answer_err, elements_among, elements_by, open_value}
use Rattle.route_section.specs.Filling.{Filling, filled}
use Rattle.route_section.proofs.FillingLaws.{fill_full, fill_unread, fill_long, fill_route, any_place, lines_done, AllShort, shorter, short_first, short_uri, short_elements, short_values, held_answered, refused_answered}
use Rattle.route_section.proofs.filling.fill_routes.Goals as goal
use Rattle.route_section.proofs.filling.fill_routes.Goals.{in-None, in-Some+in-Some-e+then-count-ge-MAX_ROUTE_SET_SIZE}

pub lines-init : goal.lines-init
lines-init g c =
    let e : values_ahead c.into_iter-v-iterator.result ≡ values_of (all_named record_route_name (lines_of c.args.block.now)) = (rw c.into_iter-v-iterator.ensures.into_iter_gives c.of-v-items.ensures) in (
      ap (filled rust_limits g.O.Order.reversed (record { count = 0; size = 0; bytes = c.args.out.now })) (elements_by _ ∙ ap elements_among (sym e)),
      refl,
      omega arith,
      omega arith,
      subst (AllShort 8192) (sym e) (shorter _ 8192 _ c.requires (short_values c.args.block.now record_route_name)),
    )

pub loop-e-init : goal.loop-e-init
loop-e-init g c =
    let l = c.lines in
    let rest = elements_among (values_ahead c.next.new.self) in
    let e : elements_ahead c.into_iter-e-iterator.result ≡ header_values c.in-Some.v.text.now = (rw c.into_iter-e-iterator.ensures.into_iter_gives c.of-e-items.ensures) in
    let s = short_first 8192 _ _ _ c.in-Some.ensures.steps l.invariant.4 in (
      l.invariant.0 ∙ ap (filled rust_limits g.O.Order.reversed (record { count = l.count; size = l.size; bytes = l.out })) (
          open_value _ _ _ c.in-Some.ensures.steps
          )
          ∙ any_place g.O.Order.reversed c.in-Some.v.place (header_values c.in-Some.v.text.now) rest (record { count = l.count; size = l.size; bytes = l.out })
          ∙ ap (λ (es : List Piece). filled rust_limits g.O.Order.reversed (record { count = l.count; size = l.size; bytes = l.out }) (es ++ rest)) (sym e),
      l.invariant.1,
      l.invariant.2,
      l.invariant.3,
      subst (AllShort 8192) (sym e) (shorter _ 8192 _ s.0 (short_elements c.in-Some.v.text.now)),
      s.1,
    )

pub returns-in_err-u-clause-answered : goal.returns-in_err-u-clause-answered
returns-in_err-u-clause-answered g c =
    let p = err_from_is_err_and c.from_residual.result c.from_residual.ensures.1 in
    rw (p.1, p.2) (refused_answered _ _ _ (c.loop-e.invariant.0 ∙ fill_long _ _ _ _ _ _ c.in-Some-e.ensures.steps (omega arith) _ (answer_err _ _ _ c.read_element.ensures c.in_err-u.was)))

pub put_text-requires : goal.put_text-requires
put_text-requires g c = (
  omega (arith, (short_first 8192 _ _ _ c.in-Some-e.ensures.steps c.loop-e.invariant.4).0, short_uri _ _ (piece_of c.in-Some-2.u) (answer_some _ _ _ c.read_element.ensures (c.in_ok-u.was ∙ ap Ok c.in-Some-2.is))),
  omega (arith, c.loop-e.invariant.2, c.loop-e.invariant.3),
)

pub loop-e-preserved-in-Some-2 : goal.loop-e-preserved-in-Some-2
loop-e-preserved-in-Some-2 g c =
    let l = c.loop-e in
    let u = c.in-Some-2.u in
    let f : Filling = record { count = l.count; size = l.size; bytes = l.out } in
    let left = elements_ahead c.next-in-loop-e.new.self ++ elements_among (values_ahead c.next.new.self) in
    let is = answer_some _ _ _ c.read_element.ensures (c.in_ok-u.was ∙ ap Ok c.in-Some-2.is) in
    let s = short_first 8192 _ _ _ c.in-Some-e.ensures.steps l.invariant.4 in
    let n : length u.text.now ≤ 8192 = omega (arith, s.0, short_uri _ _ (piece_of u) is) in (
      l.invariant.0
          ∙ fill_route g.O.Order.reversed f _ _ _ _ c.in-Some-e.ensures.steps (omega arith) (piece_of u) is
          ∙ ap (λ (b : List ℕ). filled rust_limits g.O.Order.reversed (record { count = l.count + 1; size = l.size + (2 + length u.text.now); bytes = b }) left) (sym c.put_text.ensures),
      l.invariant.1,
      omega arith,
      omega (arith, n, l.invariant.3),
      s.1,
      l.invariant.5,
    )

pub loop-e-preserved : goal.loop-e-preserved
loop-e-preserved g c =
    let l = c.loop-e in (
      l.invariant.0 ∙ fill_unread _ _ _ _ _ _ c.in-Some-e.ensures.steps (omega arith) (answer_none _ _ c.read_element.ensures (c.in_ok-u.was ∙ ap Ok c.in_default.is)),
      l.invariant.1,
      l.invariant.2,
      l.invariant.3,
      (short_first 8192 _ _ _ c.in-Some-e.ensures.steps l.invariant.4).1,
      l.invariant.5,
    )

pub returns-then-full-clause-answered : goal.returns-then-full-clause-answered
returns-then-full-clause-answered g c =
    elim c.match-next.branch [
      | in-None w ↦ absurd (true≢false (sym c.if-full.true ∙ w.full-is ∙ c.lines.invariant.1))
      | in-Some+in-Some-e+then-count-ge-MAX_ROUTE_SET_SIZE w ↦ refused_answered _ _ _ (w.loop-e.invariant.0 ∙ fill_full _ _ _ _ _ _ w.in-Some-e.ensures.steps w.if-count-ge-MAX_ROUTE_SET_SIZE.true)
    ]

pub returns-clause-answered : goal.returns-clause-answered
returns-clause-answered g c =
    elim c.match-next.branch [
      | in-None w ↦ rw (w.out-is, w.count-is, w.size-is) (held_answered _ _ (c.lines.invariant.0 ∙ lines_done _ _ _ w.in-None.ensures.steps.0))
      | in-Some+in-Some-e+then-count-ge-MAX_ROUTE_SET_SIZE w ↦ absurd (true≢false (sym w.full-is ∙ c.if-full.false))
    ]
