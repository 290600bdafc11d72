-- `creation_writing::write_image` meets its contract: the front where both fit, and the routes' section behind it. Assumes nothing.
use mathlib.Core.Path.{◌≡◌, sym, ap, subst, ◌∙◌}
use mathlib.Core.Bool.{Bool}
use Prim.Native.Nat.{ℕ, ◌+◌, ◌-◌}
use Rattle.std.proofs.Common.{rules}
use lib.ListN.{length}
use borrow.Rule.Slice.PartMut.{put_mid}
use Rattle.std.specs.Prelude.{Ok}
use Rattle.std.proofs.lemmas.Result.{err_from_is_err_and}
use Rattle.limits.specs.Limits.{rust_limits}
use Rattle.output.specs.Output.{fitted, leaves, written_from}
use Rattle.route_set.specs.Routes.{routes_of}
use Rattle.route_section.specs.Section.{section_in}
use Rattle.route_section.specs.Measured.{given_by}
use Rattle.route_section.specs.declared.peer.PeerRoutes.{PeerRoutes}
use Rattle.route_section.proofs.SectionLaws.{section_in_size}
use Rattle.record.specs.NumbersForm.{meaning}
use Rattle.image_writer.specs.Parts.{Parts, ids_given, uris_given, image_of}
use Rattle.creation_writing.specs.NewParts.{parts_for}
use Rattle.creation_writing.proofs.ImageLaws.{parts_same, Begun, front_refused, front_begun, image_done}
use Rattle.creation_writing.proofs.write_image.Goals as goal
use Rattle.creation_writing.proofs.write_image.Given.{Over}
use Rattle.creation_writing.proofs.write_image.Goals.{After-write_front}

-- the parts of the image as the front was written from them, and that they are those of the contract
abbrev parts : (g : Over) → After-write_front g → Parts
parts g c = record { numbers = meaning c.args.numbers; we_are_uac = c.WE_ARE_UAC.result; secure = c.is_secure.result; ids = ids_given c.args.id; uris = uris_given c.args.uris; routes = section_in g.S.Side.WE_ARE_UAC (routes_of rust_limits c.args.peer.block.now) }

abbrev asked : (g : Over) → After-write_front g → Parts
asked g c = parts_for g.S.Side.WE_ARE_UAC (meaning c.args.numbers) c.args.id c.args.uris (section_in g.S.Side.WE_ARE_UAC (routes_of rust_limits c.args.peer.block.now))

same : (g : Over) (c : After-write_front g) → parts g c ≡ asked g c
same g c = parts_same g.S.Side.WE_ARE_UAC (meaning c.args.numbers) c.args.id c.args.uris (section_in g.S.Side.WE_ARE_UAC (routes_of rust_limits c.args.peer.block.now)) c.WE_ARE_UAC.ensures c.is_secure.ensures

-- its routes' section has the size that was measured
sized : (g : Over) (p : PeerRoutes) → p.size ≡ length (section_in g.S.Side.WE_ARE_UAC (given_by p))
sized g p = p.sized ∙ sym (section_in_size g.S.Side.WE_ARE_UAC (given_by p))

-- the front was written
begun : (g : Over) (c : After-write_front g) {n : ℕ} → c.write_front.result ≡ Ok n → Begun (parts g c) c.args.peer.size (sized g c.args.peer) c.args.out.now n c.write_front.new.free
begun g c e = front_begun (parts g c) c.args.peer.size (sized g c.args.peer) c.args.out.now c.write_front.ensures.value c.write_front.ensures.free_after e

pub returns-in_err-n : goal.returns-in_err-n
returns-in_err-n g c =
    let o = c.args.out.now in
    let old : _ × _ = subst (λ (p : Parts). (c.write_front.result ≡ written_from (fitted (length o) (image_of p))) × (c.write_front.new.free ≡ leaves (fitted (length o) (image_of p)) o)) (same g (goal.at.returns-in_err-n g c).After-write_front)
    (front_refused (parts g (goal.at.returns-in_err-n g c).After-write_front) c.args.peer.size (sized g c.args.peer) o c.write_front.ensures.value (c.write_front.ensures.free_after) c.in_err-n.was) in
    let p = err_from_is_err_and c.from_residual.result c.from_residual.ensures.1 in
    record { value = rw (p.1, p.2) (sym c.in_err-n.was ∙ old.0); out_after = old.1 }

pub write_routes-requires : goal.write_routes-requires
write_routes-requires g c =
    let k = sized g c.args.peer in
    let b = c.args.peer.short in
    search rules

pub returns : goal.returns
returns g c =
    let o = c.args.out.now in
    let n = c.in_ok-n.n in
    let k = c.args.peer.size in
    let old : _ × _ = subst (λ (p : Parts). (Ok (n + k) ≡ written_from (fitted (length o) (image_of p))) × (put_mid n (n + k - n) c.write_front.new.free c.write_routes.new.out ≡ leaves (fitted (length o) (image_of p)) o)) (same g (goal.at.returns g c).After-write_front)
    (image_done (parts g (goal.at.returns g c).After-write_front) k (sized g c.args.peer) o n c.write_routes.new.out (begun g (goal.at.returns g c).After-write_front c.in_ok-n.was) (c.write_routes.ensures ∙ ap (λ (b : Bool). section_in b (routes_of rust_limits c.args.peer.block.now)) g.met.S.Side.order)) in
    record { value = old.0; out_after = old.1 }
