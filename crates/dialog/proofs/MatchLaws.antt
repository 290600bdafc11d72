-- A request's identifier held against a record's: the bytes compared are the texts. Assumes nothing.
use Prim.Native.Nat.{ℕ, ◌+◌, ◌≤◌}
use native.Mathlib.Omega.{arith}
use mathlib.Core.Path.{◌≡◌, refl, sym, ap, subst, ◌∙◌}
use mathlib.Core.Bool.{Bool, true, ◌&&◌}
use mathlib.Core.List.{List, [], ◌∷◌, map-id}
use lib.ListN.{length, drop}
use lib.Pointwise.{pointwise}
use Rattle.std.proofs.Common.{nat_eq}
use Rattle.std.specs.Prelude.{Err, None, Ok, Option, Result, Some, false}
use Rattle.limits.specs.Limits.{LimitSet}
use Rattle.limits.specs.Outcome.{or_refuse, check_of}
use Rattle.limits.specs.declared.Refusal.{Refusal}
use Rattle.limits.specs.declared.Refusal.TheVariants.{BadStore}
use Rattle.limits.proofs.Laws.{stopped}
use Rattle.text.specs.Text.{equal}
use Rattle.text.proofs.Alike.{alike_is}
use Rattle.msg.specs.Block.{block_cause}
use Rattle.dialog_id.specs.DialogId.{identifier_of, from_name, to_name}
use Rattle.dialog_id.specs.declared.DialogId.{DialogId}
use Rattle.codec.specs.Codec.{Reading}
use Rattle.record.specs.Record.{Record, image}
use Rattle.codec.proofs.CodecLaws.{Bytes}
use Rattle.image.specs.Places.{record_places, ids_of}
use Rattle.image.specs.declared.RecordAt.{RecordAt}
use Rattle.image_writer.proofs.LieLaws.{Lie, record_lies}
use Rattle.codec.proofs.SizeLaws.{got}
use Rattle.image.proofs.SizeLaws.{record_size, record_sized}
use Rattle.dialog_rules.specs.OneImage.{alone, only_one, one_record}
use Rattle.dialog.specs.Readings.{image_answer}
use Rattle.text.specs.Spans.{part_in}
use Rattle.dialog_rules.specs.Matching.{named_by}
use Rattle.dialog.specs.Matching.{matches_request, matches_answer}
use Rattle.dialog_rules.proofs.PlacedLaws.{Asked}

-- ---- the record of the image

pub record Held (bytes : List ℕ) (p : RecordAt) : Type 0 where
  pub value : Record
  pub reading : Reading Record
  pub whole : reading.value ≡ value
  pub one : one_record bytes ≡ Ok value
  pub reads : image.read (drop 0 bytes) ≡ Some reading
  pub places : p ≡ record_places 0 value

pub held : (bytes : List ℕ) (p : RecordAt) → Ok p ≡ image_answer (one_record bytes) → Held bytes p
unfolding one_record
held bytes p e = by (image.read bytes) refl e
  where
    by : (o : Option (Reading Record)) → image.read bytes ≡ o → Ok p ≡ image_answer (or_refuse BadStore (only_one o)) → Held bytes p
    by None q h = absurd (let z : ◌≡◌ {A = ℕ} 0 1 = cc in omega arith)
    by (Some x) q h = is x.rest refl h
      where
        is : (t : List ℕ) → x.rest ≡ t → Ok p ≡ image_answer (or_refuse BadStore (alone x t)) → Held bytes p
        is [] r h = record { value = x.value; reading = x; whole = refl; one = rw (q, r); reads = q; places = (cc) }
        is (b ∷ t) r h = absurd (let z : ◌≡◌ {A = ℕ} 0 1 = cc in omega arith)

-- the identifier's texts lie within the image
pub ids_within : (bytes : List ℕ) (p : RecordAt) → Held bytes p
    → (p.ids.id.call_id.start + p.ids.id.call_id.length ≤ length bytes) × (p.ids.id.local_tag.start + p.ids.id.local_tag.length ≤ length bytes) × (p.ids.id.remote_tag.start + p.ids.id.remote_tag.length ≤ length bytes)
ids_within bytes p h =
    let g = got record_sized bytes 0 h.reading (omega arith) h.reads in
    let w = subst (λ (r : Record). 0 + record_size r ≤ length bytes) h.whole g.within in
    rw h.places (omega (arith, w), omega (arith, w), omega (arith, w))

-- the comparison of two texts is `equal`
pub equal_is : (a b : List ℕ) → pointwise nat_eq a b ≡ equal a b
equal_is a b = sym (alike_is (λ x. x) (λ x. x) (λ x. refl) a b ∙ rw (map-id a, map-id b) refl)

-- the bytes compared are the texts
compared : (block bytes : List ℕ) (i : DialogId) (p : RecordAt) (q : Asked block i) (h : Held bytes p) → Bytes bytes
    → (equal (part_in block i.call_id) (part_in bytes p.ids.id.call_id) && (equal (part_in block i.local_tag) (part_in bytes p.ids.id.remote_tag) && equal (part_in block i.remote_tag) (part_in bytes p.ids.id.local_tag)))
    ≡ named_by h.value (Some q.parts)
compared block bytes i p q h b =
    let r = h.value in
    let l : Lie bytes 2 (ids_of h.reading.value) = record_lies bytes 0 h.reading b h.reads in
    let k : Lie bytes 2 (ids_of r) = subst (λ (z : Record). Lie bytes 2 (ids_of z)) h.whole l in
    rw (q.spans, h.places, q.placed.call_id.there, q.placed.local_tag.there, q.placed.remote_tag.there, k.call_id, k.local_tag, k.remote_tag)

-- ---- the answers

yes_or_no : (t : Bool) → Ok t ≡ matches_answer (Ok t)
yes_or_no true = refl
yes_or_no false = refl

module _ (L : LimitSet) (block bytes : List ℕ) where
  pub bad_block : {r : Result (Unit {0}) Refusal} {cause : Refusal} → r ≡ check_of (block_cause L block) → r ≡ Err cause → Err cause ≡ matches_answer (matches_request L block bytes)
  unfolding matches_request
  bad_block h e = rw (stopped (block_cause L block) (sym h ∙ e))

  module _ (clear : block_cause L block ≡ None) where
    pub bad_image : {cause : Refusal} → Err cause ≡ image_answer (one_record bytes) → Err cause ≡ matches_answer (matches_request L block bytes)
    unfolding matches_request one_record
    bad_image e = by (only_one (image.read bytes)) refl e
      where
        by : (o : Option Record) {cause : Refusal} → only_one (image.read bytes) ≡ o → Err cause ≡ image_answer (or_refuse BadStore o) → Err cause ≡ matches_answer (matches_request L block bytes)
        by None {cause} q h = let z : cause ≡ BadStore = cc in rw (clear, q) (ap Err z)
        by (Some r) q h = absurd (let z : ◌≡◌ {A = ℕ} 0 1 = cc in omega arith)

    pub no_part : (p : RecordAt) → Held bytes p → identifier_of from_name to_name block ≡ None → Ok false ≡ matches_answer (matches_request L block bytes)
    unfolding matches_request
    no_part p h e = rw (clear, h.one, e)

    pub matched : (p : RecordAt) (i : DialogId) (h : Held bytes p) (q : Asked block i) → Bytes bytes → (t : Bool)
        → t ≡ (equal (part_in block i.call_id) (part_in bytes p.ids.id.call_id) && (equal (part_in block i.local_tag) (part_in bytes p.ids.id.remote_tag) && equal (part_in block i.remote_tag) (part_in bytes p.ids.id.local_tag)))
        → Ok t ≡ matches_answer (matches_request L block bytes)
    unfolding matches_request
    matched p i h q b t e =
        let k : t ≡ named_by h.value (Some q.parts) = e ∙ compared block bytes i p q h b in
        rw (clear, h.one, q.reads) (ap Ok k ∙ yes_or_no (named_by h.value (Some q.parts)))
