-- `image_edit::change_numbers` meets its contract: the section replaced, the state byte and the map put are the image of the changed record. Assumes
-- nothing.
use native.Mathlib.Omega.{arith}
use mathlib.Core.Path.{◌≡◌, refl, ap, ◌∙◌}
use mathlib.Core.Bool.{◌||◌}
use mathlib.Core.List.{List, [], ◌∷◌}
use Prim.Native.Nat.{ℕ, ◌+◌, ◌≤◌, ◌<◌}
use lib.ListN.{length, take, get_or}
use Rattle.edit.specs.Edit.{put_at}
use Rattle.codec.specs.Codec.{two}
use Rattle.record.specs.Record.{Numbers, state_byte_number}
use Rattle.image_edit.specs.Maps.{map_from}
use Rattle.image_edit.proofs.TailLaws.{Puts, Tailed, standing_puts, tailed, tail_edit}
use Rattle.image_edit.proofs.change_numbers.Goals as goal
use Rattle.image_edit.proofs.change_numbers.Given.{Over}
use Rattle.image_edit.proofs.change_numbers.Goals.{Start}

-- the change of the record among the used bytes
abbrev puts : (g : Over) (c : Start g) (f : (i : ℕ) → get_or c.args.bytes.now i 0 < 256) → Puts (take c.args.p.used c.args.bytes.now) c.args.p.at c.args.p.record
puts g c f =
    let a = c.args in
    let m = g.met.T.Tail in
    standing_puts a.bytes.now a.p f c.requires.stands g.T.Tail a.tail (m.made a.tail) m.tail_is (m.new_tail a.tail) m.end_is (m.count_is a.tail)

-- its places and the new used length
tail : (g : Over) (c : Start g) (f : (i : ℕ) → get_or c.args.bytes.now i 0 < 256) → Tailed c.args.bytes.now c.args.p (g.T.Tail.makes c.args.tail) (g.T.Tail.section c.args.tail) (g.T.Tail.ended c.args.p.record)
tail g c f = tailed c.args.bytes.now c.args.p c.requires.stands.0 (puts g c f)

pub replace_tail-n-requires-clause-in_order : goal.replace_tail-n-requires-clause-in_order
replace_tail-n-requires-clause-in_order g c =
    let t = tail g (goal.at.replace_tail-n-requires-clause-in_order g c).Start (λ i. (c.slice_known-1.given i).fits) in
    (t.uris_before, t.end_within, c.requires.stands.0)

pub replace_tail-n-requires-clause-bytes_in_bounds : goal.replace_tail-n-requires-clause-bytes_in_bounds
replace_tail-n-requires-clause-bytes_in_bounds g c = omega (arith, tail g (goal.at.replace_tail-n-requires-clause-bytes_in_bounds g c).Start (λ i. (c.slice_known-1.given i).fits), c.requires.bytes_in_bounds)

pub write_marks-requires : goal.write_marks-requires
write_marks-requires g c =
    let t = tail g (goal.at.write_marks-requires g c).Start (λ i. (c.slice_known-1.given i).fits) in
    let k : length c.replace_tail-n.new.bytes ≡ length c.args.bytes.now = c.replace_tail-n.auto.bytes in
    let x : c.args.p.at + 2 ≤ length c.replace_tail-n.new.bytes = omega (arith, t, k, c.requires.stands.0) in
    let y : c.args.p.record.state + 1 ≤ length c.replace_tail-n.new.bytes = omega (arith, t, k, c.requires.stands.0) in
    (x, y)

pub returns-clause-value : goal.returns-clause-value
returns-clause-value g c = omega (arith, c.replace_tail-n.ensures.value, tail g (goal.at.returns-clause-value g c).Start (λ i. (c.slice_known-1.given i).fits))

pub returns-clause-bytes_after : goal.returns-clause-bytes_after
returns-clause-bytes_after g c =
    let a = c.args in
    let r = a.p.record in
    let marked : Numbers → ℕ → List ℕ → List ℕ = λ (x : Numbers) (n : ℕ) (s : List ℕ). put_at a.p.at (two.write (map_from x r.ids n)) (put_at r.state (state_byte_number (record { state = x.state; we_are_uac = r.we_are_uac; secure = r.uris.local_secure || r.uris.remote_secure }) ∷ []) s) in
    c.write_marks.ensures
    ∙ ap (λ (x : Numbers). marked x c.count.result c.replace_tail-n.new.bytes) c.numbers.ensures
    ∙ ap (λ (n : ℕ). marked (g.T.Tail.values a.tail) n c.replace_tail-n.new.bytes) c.count.ensures
    ∙ ap (marked (g.T.Tail.values a.tail) (g.T.Tail.counted a.tail r)) c.replace_tail-n.ensures.bytes_after
    ∙ tail_edit (take a.p.used a.bytes.now) a.p.at r (puts g (goal.at.returns-clause-bytes_after g c).Start (λ i. (c.slice_known-1.given i).fits)) a.bytes.now refl refl
