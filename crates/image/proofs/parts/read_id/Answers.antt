-- `image::read_id` meets its contract: the part that is tested is the text that was read. Assumes nothing.
use Rattle.image.proofs.PartLaws.{inside, id_unfit, id_whole}
use Rattle.std.proofs.Common.{arith}
use Rattle.std.proofs.lemmas.Grind.{common_steps}
use Rattle.image.proofs.parts.read_id.Goals as goal
use Rattle.image.proofs.parts.read_id.Goals.{then-t-eq0-via-then-t-eq0, then-t-eq0-via-else-t-eq0+then-not-all_value}

pub text-requires : goal.text-requires
text-requires c = inside c.args.bytes.now c.args.at c.read_text.ensures c.requires c.in_ok-t.was

pub returns-then-t-eq0 : goal.returns-then-t-eq0
returns-then-t-eq0 c =
    let a = c.args in
    elim c.then-t-eq0.branch [
      | then-t-eq0-via-then-t-eq0 w ↦ grind (arith, common_steps)
      | then-t-eq0-via-else-t-eq0+then-not-all_value w ↦ id_unfit a.bytes.now a.at c.read_text.ensures c.requires c.in_ok-t.was w.if-t-eq0.false w.text.ensures w.all_value.ensures (cc)
    ]

pub returns : goal.returns
returns c =
    let a = c.args in
    id_whole a.bytes.now a.at c.read_text.ensures c.requires c.in_ok-t.was c.if-t-eq0.false c.text.ensures c.all_value.ensures (cc)
