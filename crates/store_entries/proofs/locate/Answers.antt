-- `store_entries::locate` meets its contract: 3, then what the search found. Assumes nothing.
use Prim.Native.Nat.{ℕ}
use mathlib.Core.Path.{◌≡◌, sym, ap, subst, ◌∙◌}
use lib.ListN.{take}
use Rattle.std.proofs.result.Match.{err_is}
use Rattle.std.specs.Result.{result_ok}
use Rattle.std.specs.Prelude.{Err, List, Ok, Option, Some}
use Rattle.image.specs.declared.RecordAt.{RecordAt}
use Rattle.dialog_id.specs.Ident.{Ident, ident}
use Rattle.record.specs.Store.{decode_all}
use Rattle.store.specs.Counting.{ReadAs}
use Rattle.book.specs.Book.{is_of}
use Rattle.dialog_manager.specs.Search.{found_in}
use Rattle.dialog_manager.proofs.LookupLaws.{Kept, kept_by, refused}
use Rattle.store_entries.proofs.LocateLaws.{unread, nothing, one}
use Rattle.store_entries.proofs.locate.Goals as goal
use Rattle.store_entries.proofs.locate.Goals.{In_ok-at, In_ok-held, Start}

abbrev name : Start → Ident
name c = ident c.args.id.call_id.now c.args.id.local_tag.now c.args.id.remote_tag.now

-- the store was read
opened : (c : In_ok-held) → ReadAs c.args.bytes.now c.args.used (Ok c.in_ok-held.held)
opened c = subst (ReadAs c.args.bytes.now c.args.used) c.in_ok-held.was c.read.ensures

store : (c : In_ok-held) → Kept c.args.bytes.now c.args.used
store c = kept_by c.args.bytes.now c.args.used c.in_ok-held.held (opened c)

same : (c : In_ok-held) (i : Ident) → found_in (is_of i) (decode_all c.in_ok-held.held.bytes.now) ≡ found_in (is_of i) (decode_all (take c.args.used c.args.bytes.now))
same c i = ap (λ (s : List ℕ). found_in (is_of i) (decode_all s)) (opened c).1

-- what was found
found : (c : In_ok-at) → ◌≡◌ {A = Option (ℕ × RecordAt)} c.search_id.result (Some (c.in_ok-at.at, c.in_ok-at.record))
found c = c.ok_or.ensures.ok_part ∙ ap result_ok c.in_ok-at.was

pub returns-in_err-held-clause-value : goal.returns-in_err-held-clause-value
returns-in_err-held-clause-value c =
    err_is c.from_residual.result _ c.from_residual.ensures.1 ∙ unread c.args.bytes.now c.args.used (name (goal.at.returns-in_err-held-clause-value c).Start) (subst (ReadAs c.args.bytes.now c.args.used) c.in_err-held.was c.read.ensures)

pub returns-in_err-at-clause-value : goal.returns-in_err-at-clause-value
returns-in_err-at-clause-value c =
    let n = refused c.search_id.result c.ok_or.ensures.value c.in_err-at.was in
    err_is c.from_residual-in_err-at.result _ c.from_residual-in_err-at.ensures.1
    ∙ ap Err n.1
    ∙ nothing c.args.bytes.now c.args.used (name (goal.at.returns-in_err-at-clause-value c).Start) (store (goal.at.returns-in_err-at-clause-value c).In_ok-held) (sym n.0 ∙ c.search_id.ensures.value ∙ same (goal.at.returns-in_err-at-clause-value c).In_ok-held (name (goal.at.returns-in_err-at-clause-value c).Start))

pub returns-clause-value : goal.returns-clause-value
returns-clause-value c =
    let at = c.in_ok-at.at in
    let r = c.in_ok-at.record in
    one c.args.bytes.now c.args.used (name (goal.at.returns-clause-value c).Start) (store (goal.at.returns-clause-value c).In_ok-held) at r (sym (found (goal.at.returns-clause-value c).In_ok-at) ∙ c.search_id.ensures.value ∙ same (goal.at.returns-clause-value c).In_ok-held (name (goal.at.returns-clause-value c).Start))
