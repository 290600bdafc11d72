-- The routes' section of a record, and that of a block's routes that were measured. Assumes nothing.
use mathlib.Core.Path.{◌≡◌, refl, sym, ◌∙◌}
use mathlib.Core.Bool.{true, false}
use mathlib.Core.List.{List, [], ◌∷◌, map}
use Prim.Native.Nat.{ℕ, ◌*◌, ◌≤◌}
use native.Mathlib.Omega.{arith}
use lib.ListN.{length, length-append}
use Rattle.std.specs.Prelude.{Err, Ok, Result}
use Rattle.limits.specs.declared.Refusal.{Refusal}
use Rattle.limits.specs.Limits.{rust_limits}
use Rattle.limits.proofs.Laws.{ok_pair}
use Rattle.text.specs.Text.{Piece}
use Rattle.codec.specs.Codec.{write_all}
use Rattle.codec.proofs.CodecLaws.{GoodAll}
use Rattle.codec.proofs.SizeLaws.{text_size}
use Rattle.record.specs.Record.{is_filled, uri_text, routes_field}
use Rattle.dialog_rules.proofs.RouteLaws.{RouteWithin, block_routes}
use Rattle.image.specs.Places.{texts_size, routes_size}
use Rattle.route_section.specs.Measured.{Measured, given_by}
use Rattle.route_section.specs.Section.{section_of, route_texts, section_in, section_from}
use Rattle.route_section.specs.declared.peer.PeerRoutes.{PeerRoutes}
use Rattle.route_section.proofs.SectionLaws.{texts_count, section_size, section_in_size}

-- ---- the routes' section by its texts

texts_long : (l : List (List ℕ)) → texts_size l ≡ length (write_all uri_text l)
unfolding texts_size write_all
texts_long [] = refl
texts_long (t ∷ l) = omega (arith, texts_long l, text_size t, length-append (uri_text.write t) (write_all uri_text l))

pub routes_long : (l : List (List ℕ)) → routes_size l ≡ length ((routes_field (is_filled l)).write l)
unfolding texts_size
routes_long [] = refl
routes_long (t ∷ l) = omega (arith, texts_long (t ∷ l))

-- each route is a part of the block
texts_small : (k : ℕ) (ps : List Piece) → k ≤ 8192 → GoodAll (RouteWithin k) ps → texts_size (map (λ (p : Piece). p.text) ps) ≤ length ps * 8194
unfolding texts_size
texts_small k [] h g = omega arith
texts_small k (p ∷ ps) h g = omega (arith, h, g.0.0, texts_small k ps h g.1)

filled_small : (k : ℕ) (ps : List Piece) → k ≤ 8192 → length ps ≤ 50 → GoodAll (RouteWithin k) ps → length (section_of (route_texts false ps)) ≤ 500000
filled_small k [] h n g = omega (arith, sym (routes_long []))
filled_small k (p ∷ ps) h n g = omega (arith, n, texts_small k (p ∷ ps) h g, sym (routes_long (route_texts false (p ∷ ps))))

-- ---- the routes that were measured

pub record PeerRead (p : PeerRoutes) : Type 0 where
  pub pieces : List Piece
  pub is : given_by p ≡ Ok pieces
  pub count_is : p.count ≡ length (route_texts true pieces)
  pub size_is : p.size ≡ length (section_of (route_texts true pieces))
  pub small : p.size ≤ 500000

pub measured : (p : PeerRoutes) → Measured p → PeerRead p
measured p m = by (given_by p) refl m
  where
    by : (o : Result (List Piece) Refusal) → given_by p ≡ o → section_from o ≡ Ok (p.count, p.size) → PeerRead p
    by (Err cause) q h = absurd (let z : ◌≡◌ {A = ℕ} 0 1 = cc in omega arith)
    by (Ok ps) q h =
        let n = ok_pair h in
        let size : p.size ≡ length (section_of (route_texts true ps)) = sym n.1 ∙ sym (section_size true ps) in
        let w = block_routes rust_limits p.block.now ps q in
        record {
          pieces = ps;
          is = q;
          count_is = sym n.0 ∙ sym (texts_count true ps);
          size_is = size;
          small = omega (arith, size, section_size true ps, filled_small (length p.block.now) ps p.short w.1 w.0);
        }

pub measured_size : (p : PeerRoutes) → p.size ≡ length (section_in true (given_by p))
measured_size p = p.sized ∙ sym (section_in_size true (given_by p))
