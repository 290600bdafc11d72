-- A renewal's section written: the numbers, and the routes in the bytes behind them. Assumes nothing.
use native.Mathlib.Omega.{arith}
use mathlib.Core.Path.{◌≡◌, sym, ap, ◌∙◌}
use mathlib.Core.Bool.{true}
use mathlib.Core.List.{List}
use Prim.Native.Nat.{ℕ, ◌+◌, ◌≤◌}
use lib.ListN.{length, length-append}
use Rattle.std.proofs.Common.{rules}
use Rattle.edit.specs.Edit.{put_at}
use Rattle.edit.proofs.EditLaws.{put_put}
use Rattle.record.specs.NumbersForm.{meaning}
use Rattle.image_writer.specs.Parts.{numbers_bytes}
use Rattle.route_section.specs.Measured.{given_by}
use Rattle.route_section.specs.Section.{section_in}
use Rattle.image_edit.proofs.RoutesLaws.{measured_size}
use Rattle.routes_edit.proofs.LentLaws.{lent_put}
use Rattle.routes_edit.proofs.RenewalTail.write.Goals as goal
use Rattle.routes_edit.proofs.RenewalTail.write.Goals.{Start}

-- both sections have room
room : (c : Start) → c.args.at + (length (numbers_bytes (meaning c.args.self.numbers)) + c.args.self.peer.size) ≤ length c.args.bytes.now
room c =
    let r = c.args.self in
    omega (arith, c.requires, measured_size r.peer, length-append (numbers_bytes (meaning r.numbers)) (section_in true (given_by r.peer)))

pub overflow_add-e : goal.overflow_add-e
overflow_add-e c =
    let k = room (goal.at.overflow_add-e c).Start in
    search rules

pub slice_bounds-write_routes-end : goal.slice_bounds-write_routes-end
slice_bounds-write_routes-end c =
    let k = room (goal.at.slice_bounds-write_routes-end c).Start in
    search rules

pub write_routes-requires : goal.write_routes-requires
write_routes-requires c =
    let r = c.args.self in
    let k = room (goal.at.write_routes-requires c).Start in
    let m : r.peer.size ≡ length (section_in true (given_by r.peer)) = measured_size r.peer in
    search rules

pub returns : goal.returns
returns c =
    let a = c.args in
    let r = a.self in
    let x = numbers_bytes (meaning r.numbers) in
    let t = section_in true (given_by r.peer) in
    let w = c.write_numbers-a in
    lent_put w.result r.peer.size w.new.out c.write_routes.new.out (ap length c.write_routes.ensures ∙ sym (measured_size r.peer))
    ∙ ap (λ (l : List ℕ). put_at w.result l w.new.out) c.write_routes.ensures
    ∙ ap (put_at w.result t) w.ensures.out_after
    ∙ ap (λ (n : ℕ). put_at n t (put_at a.at x a.bytes.now)) w.ensures.value
    ∙ put_put a.at x t a.bytes.now (omega (arith, room (goal.at.returns c).Start))
