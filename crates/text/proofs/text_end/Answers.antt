-- `text::text_end` meets its contract: the last byte that is no blank, or none. Assumes nothing.
use Prim.Native.Nat.{◌+◌}
use native.Mathlib.Omega.{arith}
use mathlib.Core.Bool.{false}
use mathlib.Core.Path.{◌≡◌}
use lib.ListN.{get_or}
use Rattle.std.proofs.Common.{rules}
use Rattle.text.specs.Text.{is_blank}
use Rattle.text.proofs.Trimming.{end_is}
use Rattle.text.proofs.text_end.Goals as goal

pub returns-in-Some-clause-value : goal.returns-in-Some-clause-value
returns-in-Some-clause-value c =
    let s = c.args.s.now in
    let i = c.in-Some.last in
    let e : is_blank (get_or s i 0) ≡ false = search rules in
    end_is is_blank s (i + 1) (λ k h. let q : k ≡ i = omega arith in rw q e) (search rules) (λ k h l. search rules)

pub returns-in-None-clause-value : goal.returns-in-None-clause-value
returns-in-None-clause-value c = end_is is_blank c.args.s.now 0 (λ k h. absurd (omega arith)) (omega arith) (λ k h l. search rules)
