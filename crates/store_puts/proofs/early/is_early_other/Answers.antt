-- `early::is_early_other` meets its contract: the state, then the Call-ID, then all three texts. Assumes nothing.
use mathlib.Core.Path.{◌≡◌, sym, ◌∙◌}
use mathlib.Core.Bool.{true, false, not}
use Rattle.text.specs.Text.{equal}
use Rattle.book.specs.Book.{is_early}
use Rattle.dialog.proofs.MatchLaws.{equal_is}
use Rattle.dialog_id.specs.Ident.{same_ident}
use Rattle.dialog_id.specs.IdTexts.{ident_of}
use Rattle.store_puts.specs.Puts.{state_at}
use Rattle.store_puts.proofs.EarlyLaws.{other_met, other_not}
use Rattle.store_puts.proofs.early.is_early_other.Goals as goal
use Rattle.store_puts.proofs.early.is_early_other.Goals.{then-is_early_at, else-is_early_at}

pub returns-then-eq : goal.returns-then-eq
unfolding same_ident
returns-then-eq c =
    let s = c.args.bytes.now in
    let o = c.texts-other.result in
    let i = c.args.id in
    elim c.if-is_early_at.branch [
      | then-is_early_at w ↦
          let e : is_early (state_at s c.args.ids.end) ≡ true = sym c.is_early_at.ensures ∙ w.if-is_early_at.true in
          let q : equal o.call_id.now i.call_id.now ≡ true = sym (w.eq.ensures ∙ equal_is o.call_id.now i.call_id.now) ∙ sym w.value-is ∙ c.if-eq.true in
          let n : c.ne.result ≡ not (same_ident (ident_of o) (ident_of i)) = c.ne.ensures ∙ rw (equal_is o.call_id.now i.call_id.now, equal_is o.local_tag.now i.local_tag.now, equal_is o.remote_tag.now i.remote_tag.now) in
          n ∙ other_met s c.args.ids (ident_of o) (ident_of i) c.texts-other.ensures e q
      | else-is_early_at w ↦ absurd (let z : false ≡ true = sym w.if-is_early_at.false ∙ sym w.value-is ∙ c.if-eq.true in cc)
    ]

pub returns-else-eq : goal.returns-else-eq
returns-else-eq c =
    let s = c.args.bytes.now in
    let o = c.texts-other.result in
    let i = c.args.id in
    elim c.if-is_early_at.branch [
      | then-is_early_at w ↦
          let q : equal o.call_id.now i.call_id.now ≡ false = sym (w.eq.ensures ∙ equal_is o.call_id.now i.call_id.now) ∙ sym w.value-is ∙ c.if-eq.false in
          c.if-eq.false ∙ other_not s c.args.ids (ident_of o) (ident_of i) c.texts-other.ensures q
      | else-is_early_at w ↦
          let e : is_early (state_at s c.args.ids.end) ≡ false = sym c.is_early_at.ensures ∙ w.if-is_early_at.false in
          c.if-eq.false ∙ rw e
    ]
