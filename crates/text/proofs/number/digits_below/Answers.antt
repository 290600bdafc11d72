-- `text::digits_below` meets its contract: at each turn the whole reading is that of the rest after the number so far.
-- Assumes nothing.
use mathlib.Core.Path.{sym, ap, ◌∙◌}
use native.Mathlib.Omega.{arith}
use Rattle.std.proofs.Common.{rules}
use Rattle.text.specs.Number.{number_from}
use Rattle.text.proofs.Digits.{empty, scan_start, done, other, large, next}
use Rattle.text.proofs.number.digits_below.Goals as goal

pub returns-then-is_empty : goal.returns-then-is_empty
returns-then-is_empty c = ap number_from (sym (empty c.args.bound c.args.s.now (search rules)))

pub loop-b-init : goal.loop-b-init
loop-b-init c = (omega arith, scan_start c.args.bound c.args.s.now (omega arith) (search rules))

pub returns-then-not-is_ascii_digit : goal.returns-then-not-is_ascii_digit
returns-then-not-is_ascii_digit c =
    let l = c.loop-b in
    ap number_from (sym (l.invariant.1 ∙ other _ l.v _ l.b-index (omega arith) (search rules)))

pub returns-then-bound-v : goal.returns-then-bound-v
returns-then-bound-v c =
    let l = c.loop-b in
    ap number_from (sym (l.invariant.1 ∙ large _ l.v _ l.b-index (omega arith) (search rules) (omega arith)))

pub loop-b-preserved : goal.loop-b-preserved
loop-b-preserved c =
    let l = c.loop-b in
    (omega arith, l.invariant.1 ∙ next _ l.v _ l.b-index (omega arith) (search rules) (omega arith))

pub returns : goal.returns
returns c =
    let l = c.loop-b in
    ap number_from (sym (l.invariant.1 ∙ done _ l.v _ l.b-index (omega arith)))
