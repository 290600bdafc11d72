-- `worst_minute::counting::count` meets its contract: the worst over the starts before the window, and the refusals of the window. Assumes nothing.
use Prim.Native.Nat.{ℕ, ◌≤◌, ◌<◌}
use native.Mathlib.Omega.{arith}
use mathlib.Core.Path.{◌≡◌, refl, ap, sym, ◌∙◌}
use mathlib.Core.Bool.{true}
use mathlib.Core.List.{List}
use lib.ListN.{length}
use Rattle.std.specs.Prelude.{Ok, Some}
use Rattle.limits.specs.Outcome.{and_then, or_refuse}
use Rattle.limits.specs.declared.Refusal.TheVariants.{BadStore}
use Rattle.worst_minute.specs.Minute.{Minute, worst}
use Rattle.worst_minute.specs.Layout.{is_sized, decode_run}
use Rattle.worst_minute.specs.Steps.{or_more}
use Rattle.worst_minute.specs.Answers.{worst_of, worst_answer}
use Rattle.worst_minute.specs.declared.counting.Window.{Window}
use Rattle.worst_minute.proofs.ReadLaws.{sized}
use Rattle.worst_minute.proofs.CountLaws.{Counting, Ready, started, falls, reached, stays, moved_on, finished, few_so_far, a_refusal, no_refusal, has_more, has_no_more, ready_as, counting_as}
use Rattle.worst_minute.proofs.counting.count.Goals as goal
use Rattle.worst_minute.proofs.counting.count.Goals.{Joined-t-w-ge-MINUTE, then-most-w, else-most-w, then-t-w-ge-MINUTE, else-t-w-ge-MINUTE, then-run-at-ne0, else-run-at-ne0}

-- the window is where the verdict at the place belongs to it
ready : (c : Joined-t-w-ge-MINUTE)
    → Ready c.args.run.now c.if-t-w-ge-MINUTE.w (record { start = c.if-t-w-ge-MINUTE.start; refusals = c.if-t-w-ge-MINUTE.most }) c.loop-at.at
ready c =
    let s = c.args.run.now in
    let p = c.requires in
    let l = c.loop-at in
    let best : Minute = record { start = l.start; refusals = l.most } in
    let m : Minute = record { start = l.w.start; refusals = l.w.refusals } in
    let h : l.at < length s = omega arith in
    let e = c.time_at-t.ensures in
    let f = c.if-t-last.false in
    elim c.if-t-w-ge-MINUTE.branch [
      | then-t-w-ge-MINUTE k ↦
          let worse : ◌≡◌ {A = Minute} (record { start = k.if-most-w.start; refusals = k.if-most-w.most }) (or_more best m) =
          elim k.if-most-w.branch [
            | then-most-w q ↦ has_more best m (omega (arith, q.if-most-w.true)) q.most-is q.start-is
            | else-most-w q ↦ has_no_more best m (omega (arith, q.if-most-w.false)) q.most-is q.start-is
          ] in
          ready_as s (record { start = k.if-most-w.start; refusals = k.if-most-w.most }) (moved_on s p.1 p.0 l.invariant h e f (omega (arith, k.if-t-w-ge-MINUTE.true)) k.moved-w.ensures worse) k.w-is k.most-is k.start-is
      | else-t-w-ge-MINUTE k ↦ ready_as s best (stays s p.1 p.0 l.invariant h e f (omega (arith, k.if-t-w-ge-MINUTE.false))) k.w-is k.most-is k.start-is
    ]

-- at the end the answer is the worst so far with the window
finally : (s : List ℕ) (z : is_sized (length s) ≡ true) (full : 0 < length s) {w : Window} {best : Minute} {last at : ℕ} → Counting s w best last at → length s ≤ at → {m : Minute} → m ≡ or_more best (record { start = w.start; refusals = w.refusals })
    → worst_of (Some m) ≡ worst_answer (and_then (or_refuse BadStore (decode_run s)) (λ vs. Ok (worst vs)))
finally s z full r h e =
    let f = finished s z full r h in
    ap (λ m. worst_of (Some m)) e ∙ ap worst_of (sym f.1) ∙ ap (λ o. worst_answer (and_then (or_refuse BadStore o) (λ vs. Ok (worst vs)))) (sym f.0)

pub loop-at-init : goal.loop-at-init
loop-at-init c = started c.args.run.now c.requires.1 c.requires.0 c.time_at-first.ensures

pub returns-then-t-last : goal.returns-then-t-last
returns-then-t-last c =
    let p = c.requires in
    ap (λ o. worst_answer (and_then (or_refuse BadStore o) (λ vs. Ok (worst vs)))) (sym (falls c.args.run.now p.1 p.0 c.loop-at.invariant (omega arith) c.time_at-t.ensures c.if-t-last.true))

pub moved-w-requires : goal.moved-w-requires
moved-w-requires c =
    let p = c.requires in
    reached c.args.run.now p.1 p.0 c.loop-at.invariant (omega arith) c.time_at-t.ensures c.if-t-last.false

pub overflow_add-w : goal.overflow_add-w
overflow_add-w c =
    let s = c.args.run.now in
    let p = c.requires in
    omega (arith, few_so_far s p.1 p.0 (ready (goal.at.overflow_add-w c).Joined-t-w-ge-MINUTE), (sized (length s) p.1).1)

pub loop-at-preserved : goal.loop-at-preserved
loop-at-preserved c =
    let s = c.args.run.now in
    let p = c.requires in
    let e = c.time_at-t.ensures in
    let r = ready (goal.at.loop-at-preserved c).Joined-t-w-ge-MINUTE in
    elim c.if-run-at-ne0.branch [
      | then-run-at-ne0 k ↦ counting_as s (a_refusal s p.1 p.0 r k.if-run-at-ne0.true e) k.w-is
      | else-run-at-ne0 k ↦ counting_as s (no_refusal s p.1 p.0 r k.if-run-at-ne0.false e) k.w-is
    ]

pub returns-then-w-most : goal.returns-then-w-most
returns-then-w-most c =
    let p = c.requires in
    let l = c.loop-at in
    let best : Minute = record { start = l.start; refusals = l.most } in
    let m : Minute = record { start = l.w.start; refusals = l.w.refusals } in
    finally c.args.run.now p.1 p.0 l.invariant (omega (arith, (sized (length c.args.run.now) p.1).0)) (has_no_more best m (omega (arith, c.if-w-most.true)) refl refl)

pub returns : goal.returns
returns c =
    let p = c.requires in
    let l = c.loop-at in
    let best : Minute = record { start = l.start; refusals = l.most } in
    let m : Minute = record { start = l.w.start; refusals = l.w.refusals } in
    finally c.args.run.now p.1 p.0 l.invariant (omega (arith, (sized (length c.args.run.now) p.1).0)) (has_more best m (omega (arith, c.if-w-most.false)) refl refl)
