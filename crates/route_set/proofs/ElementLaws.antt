-- One element with its URI, and the Contact's URI: what the answers say. Assumes nothing.
use Prim.Native.Nat.{ℕ, ◌+◌}
use mathlib.Core.Path.{◌≡◌, refl, sym, ap, ◌∙◌}
use mathlib.Core.Bool.{false}
use mathlib.Core.List.{List}
use lib.Dec.{ltb}
use Rattle.std.specs.Prelude.{None, Ok, Option, Some}
use Rattle.limits.specs.Limits.{rust_limits}
use Rattle.text.specs.Text.{Piece, moved_piece}
use Rattle.text.specs.Answers.{lookup_of}
use Rattle.text.specs.Spans.{part_in}
use Rattle.text.specs.declared.Span.{Span}
use Rattle.msg.specs.Block.{first_named, lines_of, found_of}
use Rattle.msg.specs.Table.{value_at}
use Rattle.msg.proofs.TableLaws.{value_at_lem}
use Rattle.uri.specs.SipUri.{over_estimate}
use Rattle.uri.specs.Steps.{size_of}
use Rattle.uri.specs.HeaderUri.{ReadUri, header_uri, header_uri_from}
use Rattle.uri.specs.declared.SipUri.{SipUri}
use Rattle.uri.proofs.Laws.{found_at, found, over_is}
use Rattle.route_set.specs.Routes.{contact_name, uri_in, contact_of, contact_from}
use Rattle.route_set.specs.Scan.{element_from}

-- ---- an element

short : (at : ℕ) (r : ReadUri) → over_estimate rust_limits r.uri ≡ false → element_from rust_limits at (Some r) ≡ Ok (Some (moved_piece at r.piece))
short at r t = rw t

-- its URI, with the bytes
pub element_route : (v : List ℕ) (at : ℕ) (u : Span) (parts : SipUri) → header_uri_from (header_uri v) ≡ Some (u, parts) → ltb rust_limits.uri (size_of parts) ≡ false
    → Ok (Some (record { place = at + u.start; text = part_in v u })) ≡ element_from rust_limits at (header_uri v)
element_route v at u parts e t =
    let f = found_at (header_uri v) e in
    let k : element_from rust_limits at (header_uri v) ≡ Ok (Some (moved_piece at f.read.piece)) = ap (element_from rust_limits at) f.finds ∙ short at f.read (sym (over_is f.read.uri f.told) ∙ t) in
    ap (λ (x : Span). Ok (Some (record { place = at + x.start; text = part_in v x }))) (sym f.place)
    ∙ ap (λ (l : List ℕ). Ok (Some (record { place = at + f.read.piece.place; text = l }))) (found v f.finds).stands.bytes
    ∙ sym k

-- ---- the Contact

-- by its look-up
pub contact_found : (block : List ℕ) (f : Option (Span × ℕ)) → f ≡ found_of (first_named contact_name (lines_of block)) → contact_from (uri_in (value_at f block)) ≡ contact_from (contact_of block)
unfolding contact_of
contact_found block f e = rw (e, value_at_lem contact_name block)

pub contact_answer : (o : Option Piece) → Ok (contact_from o) ≡ lookup_of (Ok o)
contact_answer None = refl
contact_answer (Some p) = refl
