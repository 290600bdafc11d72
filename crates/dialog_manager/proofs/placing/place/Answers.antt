-- `placing::place` meets its contract: 15, or the place of what was found. Assumes nothing.
use mathlib.Core.Path.{◌≡◌, sym, ap, subst, ◌∙◌}
use mathlib.Core.Bool.{Bool}
use Prim.Native.Nat.{ℕ}
use Rattle.std.proofs.result.Match.{err_is}
use Rattle.std.specs.Result.{result_ok}
use Rattle.std.specs.Prelude.{Err, Option, Some}
use Rattle.record.specs.Record.{Record}
use Rattle.image.specs.declared.RecordAt.{RecordAt}
use Rattle.codec.proofs.CodecLaws.{Bytes, bytes_all}
use Rattle.dialog_manager.specs.Search.{Stands}
use Rattle.dialog_manager.specs.Lookups.{answer_in}
use Rattle.dialog_manager.proofs.SearchLaws.{stored_held}
use Rattle.dialog_manager.proofs.LookupLaws.{refused, none_found, ends_after, one_found}
use Rattle.dialog_manager.proofs.placing.place.Goals as goal
use Rattle.dialog_manager.proofs.placing.place.Given.{Over}
use Rattle.dialog_manager.proofs.placing.place.Goals.{In_ok-at, Start}

abbrev test : (g : Over) → Start g → Record → Bool
test g c = g.W.Wanted.test c.args.wanted.now

known : (g : Over) (c : In_ok-at g) → Bytes c.args.held.bytes.now
known g c = bytes_all c.args.held.bytes.now c.args.held.fit

-- what was found
found : (g : Over) (c : In_ok-at g) → ◌≡◌ {A = Option (ℕ × RecordAt)} c.search.result (Some (c.in_ok-at.at, c.in_ok-at.r))
found g c = c.ok_or.ensures.ok_part ∙ ap result_ok c.in_ok-at.was

stands : (g : Over) (c : In_ok-at g) → Stands c.args.held.bytes.now (Some (c.in_ok-at.at, c.in_ok-at.r))
stands g c = subst (Stands c.args.held.bytes.now) (found g c) c.search.ensures.stands

pub returns-in_err-at : goal.returns-in_err-at
returns-in_err-at g c =
    let n = refused c.search.result c.ok_or.ensures.value c.in_err-at.was in
    ap answer_in (err_is c.from_residual.result _ c.from_residual.ensures.1) ∙ ap Err n.1 ∙ none_found (test g (goal.at.returns-in_err-at g c).Start) c.args.held.bytes.now (stored_held c.args.held) (sym n.0 ∙ c.search.ensures.value)

pub overflow_sub-result : goal.overflow_sub-result
overflow_sub-result g c =
    let i = (goal.at.overflow_sub-result g c).In_ok-at in
    ends_after (test g (goal.at.overflow_sub-result g c).Start) c.args.held.bytes.now (stored_held c.args.held) (known g i) c.in_ok-at.at c.in_ok-at.r (stands g i)

pub returns : goal.returns
returns g c =
    let i = (goal.at.returns g c).In_ok-at in
    one_found (test g (goal.at.returns g c).Start) c.args.held.bytes.now (stored_held c.args.held) (known g i) c.in_ok-at.at c.in_ok-at.r (stands g i) (sym (found g i) ∙ c.search.ensures.value)
