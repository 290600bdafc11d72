-- A block that was checked is short. Assumes nothing.
use Prim.Native.Nat.{ℕ, ◌≤◌}
use mathlib.Core.Path.{◌≡◌}
use mathlib.Core.Bool.{not}
use mathlib.Core.List.{List}
use lib.ListN.{length}
use borrow.Author.Tests.{ltb-false}
use Rattle.std.specs.Prelude.{Ok}
use Rattle.limits.specs.Limits.{LimitSet}
use Rattle.limits.specs.Outcome.{cause_if, check_of}
use Rattle.limits.specs.declared.Refusal.TheVariants.{TextTooLong, Malformed}
use Rattle.limits.proofs.Laws.{passed}
use Rattle.text.specs.Answers.{too_long, length_cause}
use Rattle.msg.specs.Block.{is_block, block_cause}
use Rattle.dialog_rules.proofs.RefusalLaws.{no_causes, no_cause}

pub short_block : (L : LimitSet) (block : List ℕ) → check_of (block_cause L block) ≡ Ok tt → length block ≤ L.text
unfolding block_cause
short_block L block e =
    let n = no_causes (length_cause L block) (cause_if (not (is_block block)) Malformed) (passed (block_cause L block) e) in
    ltb-false L.text (length block) (no_cause (too_long L block) TextTooLong n.0)
