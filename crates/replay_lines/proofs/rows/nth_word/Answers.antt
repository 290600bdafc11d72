use Rattle.std.proofs.Common.{rules, ◌==◌, ◌||◌}
use Rattle.std.proofs.lemmas.Iterator.Consumers.{nth_from_yields_List}
use Rattle.std.proofs.lemmas.Iterator.Splits.{YieldsList-from_slice_split}
use Rattle.replay_lines.proofs.rows.nth_word.Goals as goal

pub returns : goal.returns
returns c =
    nth_from_yields_List _ _ _ c.nth.ensures.ran
    (YieldsList-from_slice_split _ (λ b. b == 32 || b == 10) c.args.s.now c.split.ensures.rest c.split.ensures.done c.split.ensures.closure (λ x b q k. search rules))
