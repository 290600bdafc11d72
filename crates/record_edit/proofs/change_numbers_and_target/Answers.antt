-- `record_edit::change_numbers_and_target` meets its contract: both gaps opened, the section and the head written. Assumes nothing.
use mathlib.Core.Path.{◌≡◌, ap, ◌∙◌}
use mathlib.Core.Bool.{◌||◌}
use mathlib.Core.List.{List, [], ◌∷◌, ◌++◌}
use Prim.Native.Nat.{ℕ, ◌+◌, ◌-◌, ◌≤◌, ◌<◌}
use lib.ListN.{length, take, drop, get_or}
use Rattle.edit.specs.Edit.{put_at}
use Rattle.codec.specs.Codec.{two, text}
use Rattle.record.specs.Record.{Numbers, state_byte_number}
use Rattle.image_edit.specs.Maps.{map_from}
use Rattle.image_edit.proofs.TailLaws.{Puts, standing_puts}
use Rattle.record_gaps.proofs.RevisedLaws.{Both, both_places, both_edit}
use native.Mathlib.Omega.{arith}
use Rattle.record_edit.proofs.change_numbers_and_target.Given.{Over}
use Rattle.record_edit.proofs.change_numbers_and_target.Goals as goal
use Rattle.record_edit.proofs.change_numbers_and_target.Goals.{Start}

-- the change of the record among the used bytes
abbrev puts : (g : Over) (c : Start g) (f : (i : ℕ) → get_or c.args.bytes.now i 0 < 256) → Puts (take c.args.p.used c.args.bytes.now) c.args.p.at c.args.p.record
puts g c f =
    let a = c.args in
    let m = g.met.T.Tail in
    standing_puts a.bytes.now a.p f c.requires.stands g.T.Tail a.tail (m.made a.tail) m.tail_is (m.new_tail a.tail) m.end_is (m.count_is a.tail)

-- its places and the new used length
both : (g : Over) (c : Start g) (f : (i : ℕ) → get_or c.args.bytes.now i 0 < 256) → Both c.args.bytes.now c.args.p.used c.args.p.at c.args.p.record c.args.target.now (g.T.Tail.makes c.args.tail) (g.T.Tail.section c.args.tail) (g.T.Tail.ended c.args.p.record)
both g c f =
    let a = c.args in
    both_places a.bytes.now a.p.used a.p.at a.p.record c.requires.stands.0 (puts g c f) a.target.now

-- it fits
room : (g : Over) (c : Start g) (f : (i : ℕ) → get_or c.args.bytes.now i 0 < 256) → c.args.p.used - c.args.p.record.uris.target.length - (g.T.Tail.ended c.args.p.record - c.args.p.record.uris.end) + length c.args.target.now + length (g.T.Tail.section c.args.tail) ≤ length c.args.bytes.now
room g c f = omega (arith, both g c f, c.requires.bytes_in_bounds)

pub overflow_sub-second : goal.overflow_sub-second
overflow_sub-second g c = omega (arith, c.end.ensures, both g (goal.at.overflow_sub-second g c).Start (λ i. (c.slice_known-1.given i).fits))

pub open_gaps-n-requires-clause-in_order : goal.open_gaps-n-requires-clause-in_order
open_gaps-n-requires-clause-in_order g c =
    let a = c.args in
    let w = both g (goal.at.open_gaps-n-requires-clause-in_order g c).Start (λ i. (c.slice_known-1.given i).fits) in
    let e : a.p.record.uris.end + (c.end.result - a.p.record.uris.end) ≤ a.p.used = omega (arith, c.end.ensures, w) in
    (w.target_within, e, c.requires.stands.0)

pub open_gaps-n-requires-clause-bytes_in_bounds : goal.open_gaps-n-requires-clause-bytes_in_bounds
open_gaps-n-requires-clause-bytes_in_bounds g c =
    let a = c.args in
    let f : a.p.used - a.p.record.uris.target.length - (c.end.result - a.p.record.uris.end) + length a.target.now + c.size.result ≤ length a.bytes.now = omega (arith, both g (goal.at.open_gaps-n-requires-clause-bytes_in_bounds g c).Start (λ i. (c.slice_known-1.given i).fits), c.requires.bytes_in_bounds, c.end.ensures, c.size.ensures.value) in
    f

pub overflow_add-to : goal.overflow_add-to
overflow_add-to g c = omega (arith, c.end.ensures, both g (goal.at.overflow_add-to g c).Start (λ i. (c.slice_known-1.given i).fits), c.requires.stands.0, c.requires.target_bound, c.requires.bytes_in_bounds)

pub overflow_add-to-2 : goal.overflow_add-to-2
overflow_add-to-2 g c = omega (arith, c.end.ensures, both g (goal.at.overflow_add-to-2 g c).Start (λ i. (c.slice_known-1.given i).fits), c.requires.stands.0, c.requires.target_bound, c.requires.bytes_in_bounds)

pub overflow_sub-to : goal.overflow_sub-to
overflow_sub-to g c = omega (arith, c.end.ensures, both g (goal.at.overflow_sub-to g c).Start (λ i. (c.slice_known-1.given i).fits), c.requires.stands.0, c.requires.target_bound, c.requires.bytes_in_bounds)

pub overflow_add-to-3 : goal.overflow_add-to-3
overflow_add-to-3 g c = omega (arith, c.end.ensures, both g (goal.at.overflow_add-to-3 g c).Start (λ i. (c.slice_known-1.given i).fits), c.requires.stands.0, c.requires.target_bound, c.requires.bytes_in_bounds)

pub write-requires : goal.write-requires
write-requires g c =
    let a = c.args in
    let k : length c.open_gaps-n.new.bytes ≡ length a.bytes.now = c.open_gaps-n.auto.bytes in
    let w = both g (goal.at.write-requires g c).Start (λ i. (c.slice_known-1.given i).fits) in
    let x : a.p.record.uris.target.start + length a.target.now + (a.p.record.uris.end - (a.p.record.uris.target.start + a.p.record.uris.target.length)) + length (g.T.Tail.section a.tail) ≤ length c.open_gaps-n.new.bytes = omega (arith, w, c.requires.bytes_in_bounds, k) in
    x

pub write_head-requires : goal.write_head-requires
write_head-requires g c =
    let a = c.args in
    let k : length c.open_gaps-n.new.bytes ≡ length a.bytes.now = c.open_gaps-n.auto.bytes in
    let l : length c.write.new.bytes ≡ length c.open_gaps-n.new.bytes = c.write.auto.bytes in
    let w = both g (goal.at.write_head-requires g c).Start (λ i. (c.slice_known-1.given i).fits) in
    let x : a.p.record.state + 3 + length a.target.now ≤ length c.write.new.bytes = omega (arith, w, c.requires.bytes_in_bounds, k, l) in
    (w.map_before, x, c.requires.target_bound)

pub returns-clause-value : goal.returns-clause-value
returns-clause-value g c = omega (arith, c.open_gaps-n.ensures.value, c.end.ensures, c.size.ensures.value, both g (goal.at.returns-clause-value g c).Start (λ i. (c.slice_known-1.given i).fits))

pub returns-clause-bytes_after : goal.returns-clause-bytes_after
returns-clause-bytes_after g c =
    let a = c.args in
    let s = a.bytes.now in
    let r = a.p.record in
    let q = g.T.Tail.section a.tail in
    let from = r.uris.target.start + r.uris.target.length in
    let m = r.uris.end - from in
    let to = r.uris.target.start + length a.target.now in
    let opened : ℕ → ℕ → List ℕ = λ (e : ℕ) (n : ℕ). put_at to (take m (drop from s)) (put_at (to + m + n) (take (a.p.used - (r.uris.end + (e - r.uris.end))) (drop (r.uris.end + (e - r.uris.end)) s)) s) in
    let marked : Numbers → ℕ → List ℕ → List ℕ = λ (x : Numbers) (n : ℕ) (l : List ℕ). put_at a.p.at (two.write (map_from x r.ids n)) (put_at r.state ((state_byte_number (record { state = x.state; we_are_uac = r.we_are_uac; secure = r.uris.local_secure || r.uris.remote_secure }) ∷ []) ++ text.write a.target.now) l) in
    let x = g.T.Tail.values a.tail in
    let n = g.T.Tail.counted a.tail r in
    let w = (goal.at.returns-clause-bytes_after g c).Start in
    c.write_head.ensures
    ∙ ap (λ (y : Numbers). marked y c.count.result c.write.new.bytes) c.numbers.ensures
    ∙ ap (λ (i : ℕ). marked x i c.write.new.bytes) c.count.ensures
    ∙ ap (marked x n) (c.write.ensures ∙ ap (put_at (to + m) q) (c.open_gaps-n.ensures.bytes_after ∙ ap (λ (e : ℕ). opened e c.size.result) c.end.ensures ∙ ap (opened (g.T.Tail.ended r)) c.size.ensures.value))
    ∙ both_edit s a.p.used a.p.at r c.requires.stands.0 (puts g w (λ i. (c.slice_known-1.given i).fits)) a.target.now (room g w (λ i. (c.slice_known-1.given i).fits))
