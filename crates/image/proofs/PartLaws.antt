-- Each field at a place of bytes: the tests that the code makes pick what is answered. Assumes nothing.
use Prim.Native.Nat.{ℕ, ◌+◌, ◌-◌, ◌≤◌, ◌<◌}
use mathlib.Core.Path.{◌≡◌, sym, ap, ap₂, ◌∙◌}
use mathlib.Core.Bool.{Bool, true, false, cond, ◌&&◌}
use mathlib.Core.List.{List, [], ◌∷◌}
use lib.ListN.{length, drop}
use Rattle.std.specs.Prelude.{None, Option, Some}
use Rattle.text.specs.Text.{is_value, all}
use Rattle.text.specs.Number.{non_empty}
use Rattle.text.specs.Spans.{part_in}
use Rattle.text.specs.declared.Span.{Span}
use Rattle.uri.specs.SipUri.{sip_uri, uri_from as answer_of}
use Rattle.uri.specs.declared.SipUri.{SipUri}
use Rattle.uri.proofs.Laws.{PartsRead, read, unread}
use Rattle.codec.specs.Codec.{text}
use Rattle.codec.proofs.ReadLaws.{four_none}
use Rattle.record.specs.Record.{id_text, uri_text, number, optional, refresher_field}
use Rattle.codec.specs.Places.{text_span, text_from}
use Rattle.image.specs.Places.{id_from, uri_from, number_at, optional_at, refresher_at}
use Rattle.codec.proofs.AnswerLaws.{TextGot, text_got, text_part}
use Rattle.image.proofs.UriLaws.{secure_is}
use native.Mathlib.Nat.{add-sub_cancel_left}

module _ (s : List ℕ) (at : ℕ) where
  -- ---- texts

  module _ {r : Option Span} (e : r ≡ text_from at (text.read (drop at s))) (h : at ≤ length s) {p : Span} (q : r ≡ Some p) where
    there : TextGot s at p
    there = text_got s at h (sym e ∙ q)

    pub inside : p.start + p.length ≤ length s
    inside = there.got.within

    -- the bytes that it names are the text that was read
    named : part_in s p ≡ there.value
    named = rw (add-sub_cancel_left p.start p.length) at (text_part s at there)

    -- ---- identifier parts

    module _ (l : p.length ≡ 0 → ⊥) {x : List ℕ} {v : Bool} (b : x ≡ part_in s p) (a : v ≡ all is_value x) where
      by_value : (t rest : List ℕ) → p ≡ text_span at t → v ≡ all is_value t → (v ≡ true → Some p ≡ id_from at (cond (non_empty t && all is_value t) (Some (record { value = t; rest = rest })) None)) × (v ≡ false → None ≡ id_from at (cond (non_empty t && all is_value t) (Some (record { value = t; rest = rest })) None))
      by_value [] rest g k = absurd (l (ap (λ (x : Span). x.length) g))
      by_value (x ∷ t) rest g k = (λ z. rw (← k, z) (ap Some g), λ z. rw (← k, z))

      known : (v ≡ true → Some p ≡ id_from at ((id_text true).read (drop at s))) × (v ≡ false → None ≡ id_from at ((id_text true).read (drop at s)))
      known = rw there.got.reads (by_value there.value _ there.placed (a ∙ ap (λ (t : List ℕ). all is_value t) (b ∙ named)))

      pub id_unfit : v ≡ false → None ≡ id_from at ((id_text true).read (drop at s))
      id_unfit z = known.1 z

      pub id_whole : v ≡ true → Some p ≡ id_from at ((id_text true).read (drop at s))
      id_whole z = known.0 z

    -- ---- URIs

    module _ {x : List ℕ} (b : x ≡ part_in s p) where
      pub uri_unread : answer_of (sip_uri x) ≡ None → None ≡ uri_from at (uri_text.read (drop at s))
      uri_unread g = rw (there.got.reads, unread (sip_uri there.value) (rw (b ∙ named) at g))

      pub uri_whole : {u : SipUri} → answer_of (sip_uri x) ≡ Some u → Some (p, u.secure) ≡ uri_from at (uri_text.read (drop at s))
      uri_whole {u} g =
          let k : PartsRead (sip_uri there.value) u = read (sip_uri there.value) (rw (b ∙ named) at g) in
          rw (there.got.reads, k.reads) (ap₂ (λ (x : Span) (y : Bool). Some (x, y)) there.placed (ap (λ (x : SipUri). x.secure) (sym k.told) ∙ secure_is there.value k.reads))

  -- ---- numbers

  pub number_short : length s - at < 4 → None ≡ number_at at ((number true).read (drop at s))
  number_short h = rw (four_none s at h)

  pub optional_short : length s - at < 4 → None ≡ optional_at at ((optional true).read (drop at s))
  optional_short h = rw (four_none s at h)

  pub side_short : length s - at < 4 → None ≡ refresher_at at ((refresher_field true).read (drop at s))
  side_short h = rw (four_none s at h)
