-- `msg::read_line` meets its contract: each way out is one test of `line_at`. Assumes nothing.
use mathlib.Core.Path.{sym}
use Rattle.msg.proofs.LineLaws.{no_name, no_colon, name_only, no_cr, no_lf, no_end, is_line_lem}
use native.Mathlib.Omega.{arith}
use Rattle.msg.proofs.read_line.Goals as goal
use Rattle.msg.proofs.read_line.Goals.{then-n-eq0-via-then-n-eq0, then-n-eq0-via-else-n-eq0+then-n-s, then-n-eq0-via-else-n-eq0+else-n-s+then-s-n-ne58}
use Rattle.msg.proofs.read_line.Goals.{then-v-m-lt2-via-then-v-m-lt2, then-v-m-lt2-via-else-v-m-lt2+then-v-m-ne13, then-v-m-lt2-via-else-v-m-lt2+else-v-m-ne13+then-v-m-ne10}

pub returns-then-n-eq0 : goal.returns-then-n-eq0
returns-then-n-eq0 c =
    let h = c.name_length-n.ensures.value in
    sym (elim c.then-n-eq0.branch [
      | then-n-eq0-via-then-n-eq0 w ↦ no_name c.args.s.now _ h w.if-n-eq0.true
      | then-n-eq0-via-else-n-eq0+then-n-s w ↦ name_only c.args.s.now _ h w.if-n-s.true
      | then-n-eq0-via-else-n-eq0+else-n-s+then-s-n-ne58 w ↦ no_colon c.args.s.now _ h w.if-s-n-ne58.true
    ])

pub returns-then-v-m-lt2 : goal.returns-then-v-m-lt2
returns-then-v-m-lt2 c =
    let h = c.name_length-n.ensures.value in
    let k = c.value_length-m.ensures.value in
    sym (elim c.then-v-m-lt2.branch [
      | then-v-m-lt2-via-then-v-m-lt2 w ↦ no_end c.args.s.now _ h _ k (omega arith)
      | then-v-m-lt2-via-else-v-m-lt2+then-v-m-ne13 w ↦ no_cr c.args.s.now _ h _ k w.if-v-m-ne13.true
      | then-v-m-lt2-via-else-v-m-lt2+else-v-m-ne13+then-v-m-ne10 w ↦ no_lf c.args.s.now _ h _ k w.if-v-m-ne10.true
    ])

pub returns : goal.returns
returns c = sym (is_line_lem c.args.s.now _ c.name_length-n.ensures.value _ c.value_length-m.ensures.value (omega arith) c.if-s-n-ne58.false c.if-v-m-ne13.false c.if-v-m-ne10.false)
