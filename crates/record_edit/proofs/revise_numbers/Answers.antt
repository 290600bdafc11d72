-- `record_edit::revise_numbers` meets its contract: measured before a byte is written. Assumes nothing.
use Prim.Native.Nat.{ℕ, ◌<◌}
use lib.ListN.{take, get_or}
use Rattle.image_writer.proofs.FieldLaws.{refused_large}
use Rattle.image_edit.specs.Changes.{changed}
use Rattle.image_edit.proofs.TailLaws.{Puts, Tailed, standing_puts, tailed}
use native.Mathlib.Omega.{arith}
use Rattle.record_edit.proofs.revise_numbers.Given.{Over}
use Rattle.record_edit.proofs.revise_numbers.Goals as goal
use Rattle.record_edit.proofs.revise_numbers.Goals.{Start}

-- the change of the record among the used bytes
abbrev puts : (g : Over) (c : Start g) (f : (i : ℕ) → get_or c.args.bytes.now i 0 < 256) → Puts (take c.args.p.used c.args.bytes.now) c.args.p.at c.args.p.record
puts g c f =
    let a = c.args in
    let m = g.met.T.Tail in
    standing_puts a.bytes.now a.p f c.requires.stands g.T.Tail a.tail (m.made a.tail) m.tail_is (m.new_tail a.tail) m.end_is (m.count_is a.tail)

-- its places and the new used length
tail : (g : Over) (c : Start g) (f : (i : ℕ) → get_or c.args.bytes.now i 0 < 256) → Tailed c.args.bytes.now c.args.p (g.T.Tail.makes c.args.tail) (g.T.Tail.section c.args.tail) (g.T.Tail.ended c.args.p.record)
tail g c f = tailed c.args.bytes.now c.args.p c.requires.stands.0 (puts g c f)

pub overflow_sub-old : goal.overflow_sub-old
overflow_sub-old g c = omega (arith, c.end.ensures, tail g (goal.at.overflow_sub-old g c).Start (λ i. (c.slice_known-1.given i).fits))

pub overflow_sub-size : goal.overflow_sub-size
overflow_sub-size g c = omega (arith, c.end.ensures, tail g (goal.at.overflow_sub-size g c).Start (λ i. (c.slice_known-1.given i).fits))

pub returns-then-bytes-size : goal.returns-then-bytes-size
returns-then-bytes-size g c =
    let a = c.args in
    let old : _ × _ = refused_large (changed (g.T.Tail.makes a.tail) a.p.at (take a.p.used a.bytes.now)) a.bytes.now (omega (arith, c.if-bytes-size.true, c.end.ensures, c.size.ensures.value, tail g (goal.at.returns-then-bytes-size g c).Start (λ i. (c.slice_known-1.given i).fits))) in
    record { value = old.0; bytes_after = old.1 }

pub change_numbers-requires-clause-bytes_in_bounds : goal.change_numbers-requires-clause-bytes_in_bounds
change_numbers-requires-clause-bytes_in_bounds g c = omega (arith, c.if-bytes-size.false, c.end.ensures, c.size.ensures.value, tail g (goal.at.change_numbers-requires-clause-bytes_in_bounds g c).Start (λ i. (c.slice_known-1.given i).fits))
