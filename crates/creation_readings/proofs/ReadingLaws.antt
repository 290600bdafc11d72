-- What a creation reads: the numbers and their refusals, the routes' section, the Contact's place in its block. Assumes nothing.
use Prim.Native.Nat.{ℕ, ◌+◌, ◌≤◌}
use native.Mathlib.Omega.{arith}
use mathlib.Core.Path.{◌≡◌, refl, sym, ap, subst, ◌∙◌}
use mathlib.Core.List.{List}
use lib.ListN.{length, take, drop}
use Rattle.std.specs.Prelude.{None, Option, Some}
use Rattle.text.specs.Text.{Piece}
use Rattle.text.specs.declared.Span.{Span}
use Rattle.text.specs.Answers.{span_of}
use Rattle.msg.proofs.LookupLaws.{Placed}
use Rattle.route_set.specs.Routes.{contact_of, contact_from}
use Rattle.dialog_rules.specs.Updates.{text_or}
use Rattle.dialog_rules.proofs.PlacedLaws.{contact_placed}

-- ---- the Contact

-- where the code finds it
pub record ContactAt (block : List ℕ) (v : Span) : Type 0 where
  pub piece : Piece
  pub reads : contact_of block ≡ Some piece
  pub spans : span_of piece ≡ v
  pub placed : Placed block piece

pub contact_at : (block : List ℕ) (v : Span) → contact_from (contact_of block) ≡ Some v → ContactAt block v
contact_at block v e = by (contact_of block) refl e
  where
    by : (o : Option Piece) → contact_of block ≡ o → contact_from o ≡ Some v → ContactAt block v
    by None q f = absurd (let z : ◌≡◌ {A = ℕ} 0 1 = cc in omega arith)
    by (Some p) q f = record { piece = p; reads = q; spans = (cc); placed = contact_placed block p q }

pub contact_fits : (block : List ℕ) (v : Span) → ContactAt block v → v.start + v.length ≤ length block
contact_fits block v a = subst (λ (x : Span). x.start + x.length ≤ length block) a.spans a.placed.fits

pub contact_text : (block remote : List ℕ) (v : Span) → ContactAt block v → take v.length (drop v.start block) ≡ text_or remote (contact_of block)
contact_text block remote v a =
    ap (λ (x : Span). take x.length (drop x.start block)) (sym a.spans) ∙ a.placed.there ∙ ap (text_or remote) (sym a.reads)
