-- `listing_text::write_lines` meets its contract: at each turn the lines of the records before the place are written. Assumes nothing.
use native.Mathlib.Omega.{arith}
use borrow.Author.Rules.{rules}
use mathlib.Core.Path.{◌≡◌, sym, ap, ◌∙◌}
use mathlib.Core.List.{List, [], ◌++◌}
use Prim.Native.Nat.{ℕ, ◌+◌, ◌≤◌}
use lib.ListN.{length, take}
use lib.Seq.{take_at}
use Rattle.listing_lines.specs.Listing.{columns_of, line_of}
use Rattle.record.specs.NumbersForm.{meaning}
use Rattle.output.proofs.OutputLaws.{put_next}
use Rattle.edit.specs.Edit.{over, put_at}
use Rattle.listing_text.proofs.ListLaws.{Left, start_at, begun, Given, given, ended, turn, done, room}
use Rattle.listing_text.proofs.StoreLaws.{records_stored}
use Rattle.std.specs.declared.iter.Enumerate.{Enumerate}
use Rattle.listing_text.specs.declared.listed.Walk.{Walk}
use Rattle.listing_text.proofs.write_lines.Goals as goal
use Rattle.listing_text.proofs.write_lines.Goals.{In-Some}

-- the walk's turn
taken : (c : In-Some) → Given c.args.held.bytes.now c.loop-i.i-iterator.iter c.in-Some.r c.next.new.self.iter
taken c = given c.args.held.bytes.now c.loop-i.i-iterator.iter c.loop-i.invariant.1.0 c.in-Some.ensures.steps.0

-- the line of the turn
abbrev its-line : In-Some → List ℕ
its-line c = let x = c.in-Some.r in line_of (columns_of (c.in-Some.i + 1) (meaning x.numbers) x.we_are_uac x.route_count)

-- the lines so far with it, at the walk's next place
next : (c : In-Some) {n : ℕ} → n ≡ length (its-line c) → n ≤ 192
    → Left c.args.held.bytes.now c.next.new.self.iter.at (c.next.new.self.count + 1) (c.loop-i.end + n) (c.loop-i.invariant.1.1.0 ++ its-line c)
next c h u =
    let w = c.in-Some.ensures.steps in
    turn c.args.held.bytes.now c.loop-i.i-iterator.iter c.in-Some.r c.next.new.self.iter (taken c) w.1 w.2 c.loop-i.end c.loop-i.invariant.1.1.0 c.loop-i.invariant.1.1.1.0 h u

-- the line is the front of the buffer
front : (line old : List ℕ) {n : ℕ} {out : List ℕ} → n ≡ length line → out ≡ over line old → take n out ≡ line
front line old {n} {out} h e = ap (take n) e ∙ take_at line _ n (sym h)

pub loop-i-init : goal.loop-i-init
loop-i-init c =
    let s = c.args.held.bytes.now in
    let b = begun s _ _ (ap (λ (e : Enumerate Walk). e.iter) c.into_iter-i-iterator.ensures.into_iter_gives ∙ c.enumerate-i-items.ensures.source) c.new.ensures.bytes c.new.ensures.at in
    let k = ap (λ (e : Enumerate Walk). e.count) c.into_iter-i-iterator.ensures.into_iter_gives ∙ c.enumerate-i-items.ensures.count in
    (search rules, (b.0, ([], (start_at s b.1 k (records_stored s c.args.held.stored), search rules))))

pub put-requires : goal.put-requires
put-requires c =
    let i = (goal.at.put-requires c).In-Some in
    let w = c.write_listed-n.ensures in
    let l = c.loop-i.invariant.1.1.1 in
    omega (arith, room _ _ _ _ _ (next i w.value w.upper_bound), c.requires.lines_in_bounds, l.1.1, ap length (front (its-line i) _ w.value w.out_after), w.value)

pub loop-i-preserved : goal.loop-i-preserved
loop-i-preserved c =
    let i = (goal.at.loop-i-preserved c).In-Some in
    let w = c.write_listed-n.ensures in
    let l = c.loop-i in
    let t = l.invariant.1.1.0 in
    let k = l.invariant.1.1.1 in
    let written : c.put.new.bytes ≡ over (t ++ its-line i) c.args.out.now =
    c.put.ensures
    ∙ ap (λ (s : List ℕ). put_at l.end s l.out) (front (its-line i) _ w.value w.out_after)
    ∙ ap (put_at l.end (its-line i)) k.1.0
    ∙ put_next t (its-line i) c.args.out.now l.end (sym k.0.sized) in
    (search rules, ((taken i).same, (t ++ its-line i, (next i w.value w.upper_bound, (written, c.put.auto.bytes ∙ k.1.1)))))

pub returns : goal.returns
returns c =
    let l = c.loop-i.invariant.1.1.1.0 in
    let w = c.loop-i.i-iterator.iter in
    let p = c.loop-i.i-iterator.count + 1 in
    let h = ended c.args.held.bytes.now w c.loop-i.invariant.1.0 c.next.new.self.iter l c.in-None.ensures.steps.0 in
    let d = done c.args.held.bytes.now w.at p c.loop-i.end c.loop-i.invariant.1.1.0 l h in
    record { value = l.sized ∙ sym (ap length d); out_after = c.loop-i.invariant.1.1.1.1.0 ∙ ap (λ (s : List ℕ). over s c.args.out.now) (sym d) }
