-- `finding::first_of` meets its contract: at each turn the answer is that of the entries left. Assumes nothing.
use Prim.Native.Nat.{◌+◌, ◌-◌, ◌/◌, ◌<◌}
use mathlib.Core.Path.{◌≡◌, ap, refl, sym, ◌∙◌}
use lib.ListN.{length}
use Rattle.prack_body.proofs.BodyLaws.{count_is}
use Rattle.prack_list.proofs.FindLaws.{From, next_in, find_in, find_found, find_further, nowhere}
use native.Mathlib.Omega.{arith}
use Rattle.prack_list.proofs.finding.first_of.Goals as goal

pub loop-at-init : goal.loop-at-init
loop-at-init c = (refl, (omega arith, λ L t ps h e. refl))

pub returns-then-read_four-rseq : goal.returns-then-read_four-rseq
returns-then-read_four-rseq c =
    let a = c.args in
    let i = (c.loop-at.at - 10) / 20 in
    let l : i < (length a.body.now - 10) / 20 = omega arith in
    λ L t h. find_in h a.rseq c.if-body-lt-ENTRIES_AT.false (λ ps e. find_found a.rseq (next_in h ps e i l) c.loop-at.invariant.0 c.read_four.ensures c.if-read_four-rseq.true c.read_four-then-read_four-rseq.ensures ∙ sym (c.loop-at.invariant.1.1 L t ps h e))

pub loop-at-preserved : goal.loop-at-preserved
loop-at-preserved c =
    let a = c.args in
    let i = (c.loop-at.at - 10) / 20 in
    let l : i < (length a.body.now - 10) / 20 = omega arith in
    let k : (c.loop-at.at + 20 - 10) / 20 ≡ i + 1 = omega arith in
    (omega arith, (omega arith, λ L t ps h e. c.loop-at.invariant.1.1 L t ps h e ∙ find_further a.rseq (next_in h ps e i l) c.loop-at.invariant.0 c.read_four.ensures c.if-read_four-rseq.false ∙ ap (λ j. From a.rseq j ps) (sym k)))

pub returns-else-body-lt-ENTRIES_AT : goal.returns-else-body-lt-ENTRIES_AT
returns-else-body-lt-ENTRIES_AT c =
    let a = c.args in
    let i = (c.loop-at.at - 10) / 20 in
    λ L t h. find_in h a.rseq c.if-body-lt-ENTRIES_AT.false (λ ps e. sym (c.loop-at.invariant.1.1 L t ps h e ∙ nowhere a.rseq i ps (omega (arith, count_is h ps e))))

-- the last entry, behind which there is no further place
pub returns-else-read_four-rseq : goal.returns-else-read_four-rseq
returns-else-read_four-rseq c =
    let a = c.args in
    let i = (c.loop-at.at - 10) / 20 in
    let l : i < (length a.body.now - 10) / 20 = omega arith in
    λ L t h. find_in h a.rseq c.if-body-lt-ENTRIES_AT.false (λ ps e. sym (c.loop-at.invariant.1.1 L t ps h e ∙ find_further a.rseq (next_in h ps e i l) c.loop-at.invariant.0 c.read_four.ensures c.if-read_four-rseq.false ∙ nowhere a.rseq (i + 1) ps (omega (arith, count_is h ps e))))
