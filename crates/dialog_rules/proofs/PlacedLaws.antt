-- The parts of an identifier and the Contact's URI that are read from a block lie in the block; those of a request's identifier at the places that
-- `request_id` answers. Assumes nothing.
use Prim.Native.Nat.{ℕ, ◌+◌, ◌-◌}
use native.Mathlib.Omega.{arith}
use mathlib.Core.Path.{◌≡◌, refl, sym, ap, subst, ◌∙◌}
use mathlib.Core.List.{List}
use lib.ListN.{length, take, drop}
use lib.Seq.{drop-drop, take-take}
use Rattle.std.specs.Prelude.{None, Option, Some}
use Rattle.std.proofs.lemmas.List.{drop-take}
use Rattle.text.specs.Text.{Piece, moved_piece, moved}
use Rattle.text.specs.Answers.{span_of}
use Rattle.msg.specs.Block.{HeaderLine, lines_of, first_named, value_of, value_named, found_of}
use Rattle.msg.proofs.LookupLaws.{Placed, Says, found_at}
use Rattle.uri.specs.HeaderUri.{ReadUri, header_uri, piece_of}
use Rattle.uri.proofs.Laws.{Found, found}
use Rattle.route_set.specs.Routes.{contact_name, uri_in, contact_of}
use Rattle.headers.specs.Tag.{tag_of}
use Rattle.dialog_id.specs.DialogId.{Identifier, call_id_name, from_name, to_name, tag_in, tag_named, identifier, identifier_of, dialog_id_from, id_from}
use Rattle.dialog_id.specs.declared.DialogId.{DialogId}
use Rattle.headers.proofs.TagLaws.{tag_placed}

-- the value of a header
pub value_placed : (name block : List ℕ) (v : Piece) → value_named name block ≡ Some v → Placed block v
value_placed name block v e = by (first_named name (lines_of block)) refl e
  where
    by : (o : Option HeaderLine) → first_named name (lines_of block) ≡ o → value_of o ≡ Some v → Placed block v
    by None q h = absurd (let z : ◌≡◌ {A = ℕ} 0 1 = cc in omega arith)
    by (Some l) q h =
        let r : Says block (first_named name (lines_of block)) (span_of l.value) l.next = found_at block name 0 (span_of l.value) l.next (omega arith) (ap found_of q) in
        let k : r.line ≡ l = cc r.is in
        let w : l.value ≡ v = cc in
        subst (Placed block) (ap (λ (x : HeaderLine). x.value) k ∙ w) r.placed

-- a piece of a piece
moved_placed : (s : List ℕ) (v p : Piece) → Placed s v → Placed v.text p → Placed s (moved_piece v.place p)
moved_placed s v p a b =
    let x : List ℕ = drop v.place s in
    let n : ℕ = length v.text - p.place in
    let k : p.place + n ≡ length v.text = omega (arith, b.fits) in
    let t : drop p.place v.text ≡ take n (drop p.place x) = ap (drop p.place) (sym a.there) ∙ ap (λ (m : ℕ). drop p.place (take m x)) (sym k) ∙ drop-take p.place n x in
    let w : take (length p.text) (drop p.place x) ≡ p.text = sym (take-take (length p.text) n (drop p.place x) (omega (arith, b.fits))) ∙ ap (take (length p.text)) (sym t) ∙ b.there in
    record {
      fits = omega (arith, a.fits, b.fits);
      there = ap (take (length p.text)) (sym (drop-drop p.place v.place s)) ∙ w;
    }

-- a tag
tag_lies : (name block : List ℕ) (p : Piece) → tag_named name block ≡ Some p → Placed block p
unfolding tag_named
tag_lies name block p e = by (value_named name block) refl e
  where
    by : (o : Option Piece) → value_named name block ≡ o → tag_in o ≡ Some p → Placed block p
    by None q h = absurd (let z : ◌≡◌ {A = ℕ} 0 1 = cc in omega arith)
    by (Some v) q h = is (tag_of v.text) refl h
      where
        is : (t : Option Piece) → tag_of v.text ≡ t → moved v.place t ≡ Some p → Placed block p
        is None r g = absurd (let z : ◌≡◌ {A = ℕ} 0 1 = cc in omega arith)
        is (Some w) r g =
            let m : moved_piece v.place w ≡ p = cc in
            subst (Placed block) m (moved_placed block v w (value_placed name block v q) (tag_placed v.text w r))

pub record PlacedId (block : List ℕ) (i : Identifier) : Type 0 where
  pub call_id : Placed block i.call_id
  pub local_tag : Placed block i.local_tag
  pub remote_tag : Placed block i.remote_tag

pub identifier_placed : (a b block : List ℕ) (i : Identifier) → identifier_of a b block ≡ Some i → PlacedId block i
unfolding identifier_of
identifier_placed a b block i e = by (value_named call_id_name block) (tag_named a block) (tag_named b block) refl refl refl e
  where
    by : (c l r : Option Piece) → value_named call_id_name block ≡ c → tag_named a block ≡ l → tag_named b block ≡ r → identifier c l r ≡ Some i → PlacedId block i
    by None l r p q t h = absurd (let z : ◌≡◌ {A = ℕ} 0 1 = cc in omega arith)
    by (Some c) None r p q t h = absurd (let z : ◌≡◌ {A = ℕ} 0 1 = cc in omega arith)
    by (Some c) (Some l) None p q t h = absurd (let z : ◌≡◌ {A = ℕ} 0 1 = cc in omega arith)
    by (Some c) (Some l) (Some r) p q t h =
        let w : record { call_id = c; local_tag = l; remote_tag = r } ≡ i = cc in
        subst (PlacedId block) w (record { call_id = value_placed call_id_name block c p; local_tag = tag_lies a block l q; remote_tag = tag_lies b block r t })

-- the Contact's URI
pub contact_placed : (block : List ℕ) (p : Piece) → contact_of block ≡ Some p → Placed block p
unfolding contact_of
contact_placed block p e = by (value_named contact_name block) refl e
  where
    in_value : (v : Piece) (o : Option ReadUri) → header_uri v.text ≡ o → Placed block v → moved v.place (piece_of o) ≡ Some p → Placed block p
    in_value v None q h e = absurd (let z : ◌≡◌ {A = ℕ} 0 1 = cc in omega arith)
    in_value v (Some r) q h e =
        let f : Found v.text r = found v.text q in
        let s : moved_piece v.place r.piece ≡ p = cc in
        subst (Placed block) s (moved_placed block v r.piece h (record { fits = f.stands.fits; there = f.stands.bytes }))

    by : (o : Option Piece) → value_named contact_name block ≡ o → uri_in o ≡ Some p → Placed block p
    by None q e = absurd (let z : ◌≡◌ {A = ℕ} 0 1 = cc in omega arith)
    by (Some v) q e = in_value v (header_uri v.text) refl (value_placed contact_name block v q) e

-- ---- the identifier of a request

-- what was read, and where its parts lie
pub record Asked (block : List ℕ) (i : DialogId) : Type 0 where
  pub parts : Identifier
  pub reads : identifier_of from_name to_name block ≡ Some parts
  pub spans : i ≡ dialog_id_from parts
  pub placed : PlacedId block parts

pub asked : (block : List ℕ) (i : DialogId) → Some i ≡ id_from (identifier_of from_name to_name block) → Asked block i
asked block i e = by (identifier_of from_name to_name block) refl e
  where
    by : (o : Option Identifier) → identifier_of from_name to_name block ≡ o → Some i ≡ id_from o → Asked block i
    by None q h = absurd (let z : ◌≡◌ {A = ℕ} 0 1 = cc in omega arith)
    by (Some p) q h = record { parts = p; reads = q; spans = (cc); placed = identifier_placed from_name to_name block p q }

-- no answer where a part is absent
pub not_asked : (o : Option Identifier) → None ≡ id_from o → o ≡ None
not_asked None h = refl
not_asked (Some p) h = absurd (let z : ◌≡◌ {A = ℕ} 0 1 = cc in omega arith)
