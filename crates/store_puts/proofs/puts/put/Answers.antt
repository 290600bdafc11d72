-- `puts::put` meets its contract: 3 of the store and of the image, 16, then the image by its state and identifier. Assumes nothing.
use mathlib.Core.Path.{◌≡◌, sym, subst, ◌∙◌}
use lib.ListN.{length}
use Rattle.std.proofs.result.Match.{err_is}
use Rattle.std.specs.Prelude.{Ok}
use Rattle.limits.specs.Settings.{limits_in}
use Rattle.dialog_rules.specs.OneImage.{one_record}
use Rattle.dialog.specs.Readings.{image_answer}
use Rattle.dialog_id.specs.Ident.{Ident}
use Rattle.dialog_manager.specs.Search.{IdsWithin}
use Rattle.dialog_manager.proofs.LookupLaws.{Kept, kept}
use Rattle.store.specs.Counting.{records_held, count_answer}
use Rattle.store_puts.specs.Puts.{Named}
use Rattle.store_puts.proofs.PutLaws.{store_unread, not_one, too_many, full, open_to, texts_within, image_named}
use Rattle.store_edits.proofs.RemoveLaws.{turned_back}
use native.Mathlib.Omega.{arith}
use Rattle.store_puts.proofs.puts.put.Goals as goal
use Rattle.store_puts.proofs.puts.put.Goals.{In_ok-n, In_ok-r}

counted : (c : In_ok-n) → count_answer (records_held c.args.bytes.now c.args.used) ≡ Ok c.in_ok-n.n
counted c = sym c.count.ensures ∙ c.in_ok-n.was

store : (c : In_ok-n) → Kept c.args.bytes.now c.args.used
store c = kept c.args.bytes.now c.args.used (counted c)

one : (c : In_ok-r) → Ok (c.in_ok-r.r) ≡ image_answer (one_record c.args.image.now)
one c = sym c.in_ok-r.was ∙ c.read_image.ensures

texts : (c : In_ok-r) → IdsWithin c.args.image.now (c.in_ok-r.r).ids
texts c = texts_within c.args.image.now (c.in_ok-r.r) (one c)

pub returns-in_err-n : goal.returns-in_err-n
returns-in_err-n c =
    let a = c.args in
    let t = turned_back (store_unread (limits_in c.args.settings) (length a.bytes.now) a.image.now a.bytes.now a.used (sym c.count.ensures ∙ c.in_err-n.was)) in
    record { value = err_is c.from_residual.result _ c.from_residual.ensures.1 ∙ t.0; bytes_after = t.1 }

pub returns-in_err-r : goal.returns-in_err-r
returns-in_err-r c =
    let a = c.args in
    let t = turned_back (not_one (limits_in c.args.settings) (length a.bytes.now) a.image.now a.bytes.now a.used (sym c.in_err-r.was ∙ c.read_image.ensures)) in
    record { value = err_is c.from_residual-in_err-r.result _ c.from_residual-in_err-r.ensures.1 ∙ t.0; bytes_after = t.1 }

pub returns-then-n-ge-MAX_CONFIRMED_DIALOGS : goal.returns-then-n-ge-MAX_CONFIRMED_DIALOGS
returns-then-n-ge-MAX_CONFIRMED_DIALOGS c =
    let a = c.args in
    let f = full (limits_in c.args.settings) a.bytes.now a.used c.in_ok-n.n (store (goal.at.returns-then-n-ge-MAX_CONFIRMED_DIALOGS c).In_ok-n) (counted (goal.at.returns-then-n-ge-MAX_CONFIRMED_DIALOGS c).In_ok-n) (omega (arith, c.if-n-ge-MAX_CONFIRMED_DIALOGS.true)) in
    let i = image_named a.image.now (c.in_ok-r.r) (one (goal.at.returns-then-n-ge-MAX_CONFIRMED_DIALOGS c).In_ok-r) (λ i. (c.type_inv.image i).fits) in
    let t = turned_back (too_many (limits_in c.args.settings) (length a.bytes.now) a.image.now a.bytes.now a.used (store (goal.at.returns-then-n-ge-MAX_CONFIRMED_DIALOGS c).In_ok-n) i.value i.one f) in
    record { value = t.0; bytes_after = t.1 }

pub texts-id-requires : goal.texts-id-requires
texts-id-requires c = texts (goal.at.texts-id-requires c).In_ok-r

pub put_named-requires-clause-named : goal.put_named-requires-clause-named
put_named-requires-clause-named c =
    let a = c.args in
    let r = c.in_ok-r.r in
    subst (λ (i : Ident). Named a.image.now r.numbers.state i.call_id i.local_tag i.remote_tag) (sym c.texts-id.ensures)
    (image_named a.image.now r (one (goal.at.put_named-requires-clause-named c).In_ok-r) (λ i. (c.type_inv.image i).fits))

pub put_named-requires-clause-fact : goal.put_named-requires-clause-fact
put_named-requires-clause-fact c =
    let a = c.args in
    let l = c.if-n-ge-MAX_CONFIRMED_DIALOGS.false in
    open_to (limits_in c.args.settings) a.bytes.now a.used c.in_ok-n.n (store (goal.at.put_named-requires-clause-fact c).In_ok-n) (counted (goal.at.put_named-requires-clause-fact c).In_ok-n) (omega (arith, l))
