-- `prack_headers::is_reliable_provisional` meets its contract: the block's causes, the status, then the line. Assumes nothing.
use native.Mathlib.Omega.{arith}
use borrow.Author.Rules.{rules}
use Prim.Native.Nat.{ℕ, ◌<◌}
use mathlib.Core.Path.{◌≡◌, refl, sym, ap, ◌∙◌}
use mathlib.Core.Bool.{Bool, true, false, ◌&&◌}
use lib.Dec.{leb}
use borrow.Author.Tests.{le-leb, leb-true}
use Rattle.text.specs.Text.{within}
use Rattle.limits.specs.Limits.{rust_limits}
use Rattle.std.specs.Prelude.{is_some, Ok}
use Rattle.msg.specs.Block.{first_named, found_of, lines_of}
use Rattle.prack_headers.specs.Sequence.{rseq_name, reliable_answer}
use Rattle.prack_headers.proofs.ReadingLaws.{stopped_test, done_test, line_stands, reliable_same}
use Rattle.prack_headers.proofs.is_reliable_provisional.Goals as goal
use Rattle.prack_headers.proofs.is_reliable_provisional.Goals.{then-response-le100-via-then-response-le100, then-response-le100-via-else-response-le100+then-response-ge200}

pub returns-in_err-check_block : goal.returns-in_err-check_block
returns-in_err-check_block c = rw (stopped_test rust_limits _ _ c.check_block.ensures c.in_err-check_block.was) (search rules)

-- a status that is no provisional one over 100
outside : (n : ℕ) → (100 < n → n < 200 → ⊥) → within 101 199 n ≡ false
outside n h = by (leb 101 n) (leb n 199) refl refl
  where
    by : (t u : Bool) → leb 101 n ≡ t → leb n 199 ≡ u → (t && u) ≡ false
    by false u e f = refl
    by true false e f = refl
    by true true e f = absurd (h (omega (arith, leb-true 101 n e)) (omega (arith, leb-true n 199 f)))

pub returns-then-response-le100 : goal.returns-then-response-le100
returns-then-response-le100 c =
    let h : 100 < c.args.response.status → c.args.response.status < 200 → ⊥ = (λ (x : 100 < c.args.response.status) (y : c.args.response.status < 200). elim c.then-response-le100.branch [ then-response-le100-via-then-response-le100 w ↦ omega arith | then-response-le100-via-else-response-le100+then-response-ge200 w ↦ omega arith ]) in
    ap reliable_answer (sym (done_test rust_limits c.args.response.status _ c.check_block.ensures false c.in_ok-check_block.was (rw (outside c.args.response.status h))))

pub returns : goal.returns
returns c =
    let o = first_named rseq_name (lines_of c.args.response.block.now) in
    ap Ok (c.is_some.ensures ∙ ap is_some c.find.ensures)
    ∙ reliable_same (is_some (found_of o))
    ∙ ap reliable_answer (sym (done_test rust_limits c.args.response.status _ c.check_block.ensures (is_some (found_of o)) c.in_ok-check_block.was (rw (le-leb 101 c.args.response.status (omega arith), le-leb c.args.response.status 199 (omega arith)) (line_stands o))))
