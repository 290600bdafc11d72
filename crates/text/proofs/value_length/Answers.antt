-- `text::value_length` meets its contract: the run of the bytes that are no tabs, and the run that goes on after it. Assumes nothing.
use Prim.Native.Nat.{ℕ}
use mathlib.Core.Bool.{true, or-true}
use mathlib.Core.Path.{◌≡◌, ap}
use Rattle.std.proofs.lemmas.List.{take_rest}
use Rattle.text.specs.Text.{within, is_value, span}
use Rattle.text.proofs.Runs.{span_past}
use Rattle.text.proofs.value_length.Goals as goal

-- the first bytes that are no tabs are bytes of a value
within_value : (b : ℕ) → within 32 126 b ≡ true → is_value b ≡ true
within_value b e = rw (e, or-true)

pub returns-clause-value : goal.returns-clause-value
returns-clause-value c =
    let s = c.args.s.now in
    let rest = ap (span is_value) (take_rest s c.run_length-n.result) in
    cc (span_past is_value (within 32 126) within_value s, rest, c.run_length.ensures.value)
