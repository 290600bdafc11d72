-- `record_edit::revise_numbers_and_target` meets its contract: measured before a byte is written. Assumes nothing.
use Prim.Native.Nat.{ℕ, ◌<◌}
use lib.ListN.{take, get_or}
use Rattle.record.specs.Changes.{with_target}
use Rattle.image_writer.proofs.FieldLaws.{refused_large, accepted}
use Rattle.image_edit.specs.Changes.{changed}
use Rattle.image_edit.proofs.TailLaws.{Puts, standing_puts}
use Rattle.record_gaps.proofs.RevisedLaws.{Both, both_places}
use native.Mathlib.Omega.{arith}
use Rattle.record_edit.proofs.revise_numbers_and_target.Given.{Over}
use Rattle.record_edit.proofs.revise_numbers_and_target.Goals as goal
use Rattle.record_edit.proofs.revise_numbers_and_target.Goals.{Start}

-- the change of the record among the used bytes
abbrev puts : (g : Over) (c : Start g) (f : (i : ℕ) → get_or c.args.bytes.now i 0 < 256) → Puts (take c.args.p.used c.args.bytes.now) c.args.p.at c.args.p.record
puts g c f =
    let a = c.args in
    let m = g.met.T.Tail in
    standing_puts a.bytes.now a.p f c.requires.stands g.T.Tail a.tail (m.made a.tail) m.tail_is (m.new_tail a.tail) m.end_is (m.count_is a.tail)

-- its places and the new used length
both : (g : Over) (c : Start g) (f : (i : ℕ) → get_or c.args.bytes.now i 0 < 256) → Both c.args.bytes.now c.args.p.used c.args.p.at c.args.p.record c.args.target.now (g.T.Tail.makes c.args.tail) (g.T.Tail.section c.args.tail) (g.T.Tail.ended c.args.p.record)
both g c f =
    let a = c.args in
    both_places a.bytes.now a.p.used a.p.at a.p.record c.requires.stands.0 (puts g c f) a.target.now

pub overflow_sub-old : goal.overflow_sub-old
overflow_sub-old g c = omega (arith, c.end.ensures, both g (goal.at.overflow_sub-old g c).Start (λ i. (c.slice_known-1.given i).fits))

pub overflow_sub-result : goal.overflow_sub-result
overflow_sub-result g c = omega (arith, both g (goal.at.overflow_sub-result g c).Start (λ i. (c.slice_known-1.given i).fits))

pub overflow_sub-result-2 : goal.overflow_sub-result-2
overflow_sub-result-2 g c = omega (arith, c.end.ensures, both g (goal.at.overflow_sub-result-2 g c).Start (λ i. (c.slice_known-1.given i).fits))

pub returns-then-bytes-result : goal.returns-then-bytes-result
returns-then-bytes-result g c =
    let a = c.args in
    let old : _ × _ = refused_large (changed (λ v. with_target a.target.now (g.T.Tail.makes a.tail v)) a.p.at (take a.p.used a.bytes.now)) a.bytes.now (omega (arith, c.if-bytes-result.true, c.end.ensures, c.size.ensures.value, both g (goal.at.returns-then-bytes-result g c).Start (λ i. (c.slice_known-1.given i).fits))) in
    record { value = old.0; bytes_after = old.1 }

pub change_numbers_and_target-requires-clause-bytes_in_bounds : goal.change_numbers_and_target-requires-clause-bytes_in_bounds
change_numbers_and_target-requires-clause-bytes_in_bounds g c = omega (arith, c.if-bytes-result.false, c.end.ensures, c.size.ensures.value, both g (goal.at.change_numbers_and_target-requires-clause-bytes_in_bounds g c).Start (λ i. (c.slice_known-1.given i).fits))

pub returns : goal.returns
returns g c =
    let a = c.args in
    let old : _ × _ = accepted (changed (λ v. with_target a.target.now (g.T.Tail.makes a.tail v)) a.p.at (take a.p.used a.bytes.now)) a.bytes.now (omega (arith, c.if-bytes-result.false, c.end.ensures, c.size.ensures.value, both g (goal.at.returns g c).Start (λ i. (c.slice_known-1.given i).fits))) c.change_numbers_and_target.ensures.value c.change_numbers_and_target.ensures.bytes_after in
    record { value = old.0; bytes_after = old.1 }
