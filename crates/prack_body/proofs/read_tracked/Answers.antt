-- `prack_body::read_tracked` meets its contract: the text, the time and the list, one after another. Assumes nothing.
use mathlib.Core.Path.{sym, ◌∙◌}
use Rattle.limits.specs.Settings.{limits_in}
use Rattle.codec.proofs.AnswerLaws.{TextGot, text_got}
use Rattle.prack_body.proofs.ReadLaws.{held_time, held_broken, held_whole}
use native.Mathlib.Omega.{arith}
use Rattle.prack_body.proofs.read_tracked.Goals as goal
use Rattle.prack_body.proofs.read_tracked.Goals.{In_ok-id}

named : (c : In_ok-id) → TextGot c.args.bytes.now c.args.at c.in_ok-id.id
named c = text_got c.args.bytes.now c.args.at c.requires (sym c.read_text.ensures ∙ c.in_ok-id.was)

pub end-time-requires : goal.end-time-requires
end-time-requires c = omega (arith, (named (goal.at.end-time-requires c).In_ok-id).got.within)

pub overflow_sub-bytes : goal.overflow_sub-bytes
overflow_sub-bytes c = omega (arith, (named (goal.at.overflow_sub-bytes c).In_ok-id).got.within, c.end-time.ensures)

pub returns-then-bytes-time-lt-LIST_AT : goal.returns-then-bytes-time-lt-LIST_AT
returns-then-bytes-time-lt-LIST_AT c = let a = c.args in held_time (limits_in a.settings) a.bytes.now a.at (named (goal.at.returns-then-bytes-time-lt-LIST_AT c).In_ok-id) (rw c.end-time.ensures at c.if-bytes-time-lt-LIST_AT.true)

pub returns-in_err-l : goal.returns-in_err-l
returns-in_err-l c =
    let a = c.args in
    c.from_residual-in_err-l.ensures ∙ held_broken (limits_in a.settings) a.bytes.now a.at (named (goal.at.returns-in_err-l c).In_ok-id) (rw c.end-time.ensures at c.read_eight-cleaned_at.ensures) (sym c.in_err-l.was ∙ (rw c.end-time.ensures at c.read_list.ensures))

pub returns : goal.returns
returns c =
    let a = c.args in
    held_whole (limits_in a.settings) a.bytes.now a.at (named (goal.at.returns c).In_ok-id) (rw c.end-time.ensures at c.read_eight-cleaned_at.ensures) (sym c.in_ok-l.was ∙ (rw c.end-time.ensures at c.read_list.ensures))
