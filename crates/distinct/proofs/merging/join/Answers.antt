-- `merging::join` meets its contract: what the merge wrote is copied back. Assumes nothing.
use mathlib.Core.Path.{sym, subst, ◌∙◌}
use borrow.Author.Tests.{not-false}
use Rattle.distinct.specs.Sorting.{Sorted}
use Rattle.distinct.proofs.Halves.{as_sorted}
use Rattle.distinct.proofs.Merges.{put_all}
use Rattle.distinct.proofs.merging.join.Goals as goal

pub returns : goal.returns
returns c =
    let out = c.merge.new.out in
    subst (Sorted c.args.bytes.now c.args.places.now) (sym (c.copy_at.ensures ∙ put_all c.args.places.now out (c.merge.auto.out ∙ c.requires.wide)))
    (as_sorted c.merge.result c.args.bytes.now c.args.places.now out (not-false c.merge.result c.if-not-merge.false-raw) c.merge.ensures)
