-- The Contact's URI lies in the block where the look-up says; where there is none, the target is kept. Assumes nothing.
use Prim.Native.Nat.{ℕ, ◌+◌, ◌≤◌}
use native.Mathlib.Omega.{arith}
use mathlib.Core.Path.{◌≡◌, refl, sym, subst}
use mathlib.Core.List.{List}
use lib.ListN.{length}
use Rattle.std.specs.Prelude.{None, Option, Some}
use Rattle.text.specs.Text.{Piece}
use Rattle.text.specs.Answers.{span_of}
use Rattle.text.specs.Spans.{part_in}
use Rattle.text.specs.declared.Span.{Span}
use Rattle.route_set.specs.Routes.{contact_of, contact_from}
use Rattle.dialog_rules.specs.Updates.{text_or}
use Rattle.dialog_rules.proofs.PlacedLaws.{contact_placed}

-- nothing was found: the old target stays
pub no_contact : (block old : List ℕ) → contact_from (contact_of block) ≡ None → text_or old (contact_of block) ≡ old
no_contact block old e = by (contact_of block) e
  where
    by : (o : Option Piece) → contact_from o ≡ None → text_or old o ≡ old
    by None e = refl
    by (Some p) e = absurd (let z : ◌≡◌ {A = ℕ} 0 1 = cc in omega arith)

-- the URI was found: it is the new target
pub contact_within : (block : List ℕ) (c : Span) → contact_from (contact_of block) ≡ Some c → c.start + c.length ≤ length block
contact_within block c e = by (contact_of block) refl e
  where
    by : (o : Option Piece) → contact_of block ≡ o → contact_from o ≡ Some c → c.start + c.length ≤ length block
    by None q e = absurd (let z : ◌≡◌ {A = ℕ} 0 1 = cc in omega arith)
    by (Some p) q e = let s : span_of p ≡ c = cc in subst (λ (x : Span). x.start + x.length ≤ length block) s (contact_placed block p q).fits

pub contact_target : (block old : List ℕ) (c : Span) → contact_from (contact_of block) ≡ Some c → text_or old (contact_of block) ≡ part_in block c
contact_target block old c e = by (contact_of block) refl e
  where
    by : (o : Option Piece) → contact_of block ≡ o → contact_from o ≡ Some c → text_or old o ≡ part_in block c
    by None q e = absurd (let z : ◌≡◌ {A = ℕ} 0 1 = cc in omega arith)
    by (Some p) q e =
        let s : span_of p ≡ c = cc in
        subst (λ (x : Span). p.text ≡ part_in block x) s (sym (contact_placed block p q).there)
