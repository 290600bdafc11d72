-- The causes of `DialogId::new` in their order, and the parts of an identifier that a block has. Assumes nothing.
use Prim.Native.Nat.{ℕ}
use mathlib.Core.Path.{◌≡◌, refl, ap}
use mathlib.Core.List.{List}
use Rattle.std.specs.Prelude.{ok_or, None, Option, Some}
use Rattle.limits.specs.Limits.{LimitSet}
use Rattle.limits.specs.Outcome.{or_else, or_refuse}
use Rattle.limits.specs.declared.Refusal.{Refusal}
use Rattle.limits.specs.declared.Refusal.TheVariants.{MissingHeader}
use Rattle.text.specs.declared.Span.{Span}
use Rattle.msg.specs.Block.{first_named, lines_of, found_of, block_cause}
use Rattle.msg.specs.Table.{value_at}
use Rattle.msg.proofs.TableLaws.{value_at_lem}
use Rattle.dialog_id.specs.Ident.{ident, ident_cause}
use Rattle.dialog_id.specs.DialogId.{part_cause, identifier_cause, call_id_name, tag_in, tag_named, Identifier, identifier, identifier_of, read_identifier, id_from, id_answer}

-- 1, or the causes of the three parts
module _ (L : LimitSet) (c l r : List ℕ) where
  pub lengths_stop : {cause : Refusal} → ident_cause L (ident c l r) ≡ Some cause → identifier_cause L c l r ≡ Some cause
  unfolding identifier_cause
  lengths_stop e = ap (λ (o : Option Refusal). or_else o (or_else (part_cause L.call_id c) (or_else (part_cause L.tag l) (part_cause L.tag r)))) e

  pub lengths_pass : ident_cause L (ident c l r) ≡ None → identifier_cause L c l r ≡ or_else (part_cause L.call_id c) (or_else (part_cause L.tag l) (part_cause L.tag r))
  unfolding identifier_cause
  lengths_pass e = ap (λ (o : Option Refusal). or_else o (or_else (part_cause L.call_id c) (or_else (part_cause L.tag l) (part_cause L.tag r)))) e

-- ---- the readings from a block

-- the identifier by the three look-ups
pub id_found : (a b block : List ℕ) (c l r : Option (Span × ℕ)) → c ≡ found_of (first_named call_id_name (lines_of block)) → l ≡ found_of (first_named a (lines_of block)) → r ≡ found_of (first_named b (lines_of block))
    → id_from (identifier (value_at c block) (tag_in (value_at l block)) (tag_in (value_at r block))) ≡ id_from (identifier_of a b block)
unfolding identifier_of tag_named
id_found a b block c l r p q s = rw (p, q, s, value_at_lem call_id_name block, value_at_lem a block, value_at_lem b block)

-- the answer with refusals by the one without
pub id_required : (o : Option Identifier) → ok_or (id_from o) MissingHeader ≡ id_answer (or_refuse MissingHeader o)
id_required None = refl
id_required (Some i) = refl

-- a block that passed its check has an identifier, or 4
pub id_clear : (L : LimitSet) (a b block : List ℕ) → block_cause L block ≡ None → read_identifier L a b block ≡ or_refuse MissingHeader (identifier_of a b block)
unfolding read_identifier
id_clear L a b block e = rw e
