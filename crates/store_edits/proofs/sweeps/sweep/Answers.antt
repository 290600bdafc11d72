-- `sweeps::sweep` meets its contract: 3, then the records that stay. Assumes nothing.
use mathlib.Core.Path.{sym, ap, ◌∙◌}
use lib.ListN.{length, take}
use lib.Seq.{length-take-le}
use Rattle.std.proofs.result.Match.{err_is}
use Rattle.std.specs.Prelude.{Ok}
use Rattle.limits.specs.Limits.{rust_limits}
use Rattle.codec.proofs.CodecLaws.{bytes_all}
use Rattle.record.specs.Store.{decode_all}
use Rattle.book.specs.Store.{Left}
use Rattle.store_edits.specs.Edits.{living_in}
use Rattle.dialog_manager.proofs.LookupLaws.{Kept, kept, stored}
use Rattle.dialog_manager.specs.Answers.{written_in}
use Rattle.store_edits.proofs.RemoveLaws.{turned_back}
use Rattle.store_edits.proofs.SweepLaws.{unswept, swept, swept_front}
use Rattle.store_edits.proofs.sweeps.sweep.Goals as goal
use Rattle.store_edits.proofs.sweeps.sweep.Goals.{In_ok-count}

-- the store was read
store : (c : In_ok-count) → Kept c.args.bytes.now c.args.used
store c = let a = c.args in kept a.bytes.now a.used (sym c.count.ensures ∙ c.in_ok-count.was)

pub returns-in_err-count : goal.returns-in_err-count
returns-in_err-count c =
    let a = c.args in
    let t = turned_back (unswept rust_limits (length a.bytes.now) a.bytes.now a.used (sym c.count.ensures ∙ c.in_err-count.was)) in
    record { value = err_is c.from_residual.result _ c.from_residual.ensures.1 ∙ t.0; bytes_after = t.1 }

pub slice_bounds-close_up-end : goal.slice_bounds-close_up-end
slice_bounds-close_up-end c = (store c).within

pub slice_bounds-close_up-end-2 : goal.slice_bounds-close_up-end-2
slice_bounds-close_up-end-2 c = sym (length-take-le c.args.used c.args.bytes.now (store (goal.at.slice_bounds-close_up-end-2 c).In_ok-count).within)

pub close_up-requires : goal.close_up-requires
close_up-requires c =
    let a = c.args in
    stored a.bytes.now a.used (store (goal.at.close_up-requires c).In_ok-count)

pub returns : goal.returns
returns c =
    let a = c.args in
    let q = swept rust_limits (length a.bytes.now) a.bytes.now a.used (bytes_all a.bytes.now (λ i. (c.slice_known-1.given i).fits)) (store (goal.at.returns c).In_ok-count) in
    let r = c.close_up.ensures in
    let t = living_in (decode_all (take a.used a.bytes.now)) in
    let f = swept_front a.bytes.now a.used t (store (goal.at.returns c).In_ok-count).within r.bytes_after c.close_up.auto.bytes in
    record { value = ap Ok r.value ∙ sym (ap written_in q); bytes_after = f ∙ sym (ap (λ (l : Left). l.bytes) q) }
