-- `text::trim_span` meets its contract. Assumes nothing.
use Prim.Native.Nat.{ℕ}
use mathlib.Core.Path.{ap₂}
use Rattle.text.proofs.Trimming.{trim_length}
use Rattle.text.proofs.trim_span.Goals as goal

pub returns-clause-value : goal.returns-clause-value
returns-clause-value c =
    let s = c.args.s.now in
    let a = c.leading-a.result in
    let e = trim_length s a _ c.leading-a.ensures.value c.text_end-e.ensures.value (c.text_end-e.ensures.upper_bound) in
    ap₂ (λ (x y : ℕ). record { start = x; length = y }) c.leading-a.ensures.value e
