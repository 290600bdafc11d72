-- `dialog::image_route` meets its contract: the route asked for lies past so many texts. Assumes nothing.
use native.Mathlib.Omega.{arith}
use Rattle.dialog.proofs.ImageRouteLaws.{no_route, Read, image_read, nothing_there, begin_within, length_within, found}
use mathlib.Core.Path.{sym, ◌∙◌}
use Rattle.std.proofs.result.Match.{err_is}
use Rattle.dialog.proofs.routes.image_route.Goals as goal
use Rattle.dialog.proofs.routes.image_route.Goals.{In_ok-r}

-- the record that was read
the_read : (c : In_ok-r) → Read c.args.bytes.now c.in_ok-r.r
the_read c = image_read c.args.bytes.now c.in_ok-r.r (λ i. (c.type_inv.bytes i).fits) (sym c.in_ok-r.was ∙ c.read_image.ensures)

pub returns-in_err-r : goal.returns-in_err-r
returns-in_err-r c = err_is c.from_residual.result _ c.from_residual.ensures.1 ∙ no_route c.args.bytes.now c.args.index (sym c.in_err-r.was ∙ c.read_image.ensures)

pub returns-then-r-index : goal.returns-then-r-index
returns-then-r-index c = nothing_there c.args.bytes.now c.args.index c.in_ok-r.r (the_read (goal.at.returns-then-r-index c).In_ok-r) c.if-r-index.true

pub overflow_add-r : goal.overflow_add-r
overflow_add-r c = omega (arith, begin_within c.args.bytes.now c.args.index c.in_ok-r.r (the_read (goal.at.overflow_add-r c).In_ok-r) c.if-r-index.false)

pub texts_end-at-requires : goal.texts_end-at-requires
texts_end-at-requires c = omega (arith, length_within c.args.bytes.now c.args.index c.in_ok-r.r (the_read (goal.at.texts_end-at-requires c).In_ok-r) c.if-r-index.false)

pub overflow_add-result : goal.overflow_add-result
overflow_add-result c = omega (arith, length_within c.args.bytes.now c.args.index c.in_ok-r.r (the_read (goal.at.overflow_add-result c).In_ok-r) c.if-r-index.false)

pub read_two-requires : goal.read_two-requires
read_two-requires c = omega (arith, length_within c.args.bytes.now c.args.index c.in_ok-r.r (the_read (goal.at.read_two-requires c).In_ok-r) c.if-r-index.false)

pub returns : goal.returns
returns c = found c.args.bytes.now c.args.index c.in_ok-r.r (the_read (goal.at.returns c).In_ok-r) c.if-r-index.false c.texts_end-at.result c.read_two.result c.texts_end-at.ensures c.read_two.ensures.bytes_value
