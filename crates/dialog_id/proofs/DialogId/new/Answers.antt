-- `dialog_id::DialogId::new` meets its contract: the causes, in their order. Assumes nothing.
use borrow.Author.Rules.{rules}
use mathlib.Core.Path.{◌≡◌, sym, ◌∙◌}
use Rattle.limits.proofs.Laws.{passed, stopped}
use Rattle.limits.specs.Limits.{rust_limits}
use Rattle.limits.specs.Outcome.{or_else}
use Rattle.dialog_id.specs.Ident.{Ident, ident_cause}
use Rattle.dialog_id.specs.IdTexts.{ident_of}
use Rattle.dialog_id.specs.DialogId.{part_cause, identifier_cause}
use Rattle.dialog_id.proofs.IdLaws.{lengths_stop, lengths_pass}
use Rattle.dialog_id.proofs.DialogId.new.Goals as goal
use Rattle.dialog_id.proofs.DialogId.new.Goals.{In_ok-check_lengths}

-- past the lengths, the causes of the three parts
abbrev parts_of : Ident → Type 0
parts_of i = identifier_cause rust_limits i.call_id i.local_tag i.remote_tag ≡ or_else (part_cause 256 i.call_id) (or_else (part_cause 128 i.local_tag) (part_cause 128 i.remote_tag))

parts : (c : In_ok-check_lengths) → parts_of (ident_of c.args.id)
parts c =
    let i = ident_of c.args.id in
    lengths_pass rust_limits i.call_id i.local_tag i.remote_tag (passed (ident_cause rust_limits i) (sym c.check_lengths.ensures ∙ c.in_ok-check_lengths.was))

pub returns-in_err-check_lengths : goal.returns-in_err-check_lengths
returns-in_err-check_lengths c =
    let i = ident_of c.args.id in
    rw (lengths_stop rust_limits i.call_id i.local_tag i.remote_tag (stopped (ident_cause rust_limits i) (sym c.check_lengths.ensures ∙ c.in_err-check_lengths.was))) (search rules)

pub returns-in_err-check_part : goal.returns-in_err-check_part
returns-in_err-check_part c =
    rw (parts (goal.at.returns-in_err-check_part c).In_ok-check_lengths, stopped (part_cause 256 (ident_of c.args.id).call_id) (sym c.check_part.ensures ∙ c.in_err-check_part.was)) (search rules)

pub returns-in_err-check_part-2 : goal.returns-in_err-check_part-2
returns-in_err-check_part-2 c =
    let i = ident_of c.args.id in
    rw (parts (goal.at.returns-in_err-check_part-2 c).In_ok-check_lengths, passed (part_cause 256 i.call_id) (sym c.check_part.ensures ∙ c.in_ok-check_part.was), stopped (part_cause 128 i.local_tag) (sym c.check_part-2.ensures ∙ c.in_err-check_part-2.was)) (search rules)

pub returns : goal.returns
returns c =
    let i = ident_of c.args.id in
    rw (parts (goal.at.returns c).In_ok-check_lengths, passed (part_cause 256 i.call_id) (sym c.check_part.ensures ∙ c.in_ok-check_part.was), passed (part_cause 128 i.local_tag) (sym c.check_part-2.ensures ∙ c.in_ok-check_part-2.was)) c.check_part-3.ensures
