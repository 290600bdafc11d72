-- `dialog_creation::create` meets its contract: 1, 2, 6, and then what is made. Assumes nothing.
use mathlib.Core.Path.{◌≡◌, sym, subst, ◌∙◌}
use Prim.Native.Nat.{ℕ}
use mathlib.Core.List.{List}
use lib.ListN.{length}
use Rattle.std.specs.Prelude.{None, Result}
use Rattle.std.proofs.lemmas.Result.{err_from_is_err_and}
use Rattle.limits.specs.declared.Refusal.{Refusal}
use Rattle.limits.specs.Limits.{rust_limits}
use Rattle.limits.specs.Outcome.{or_else}
use Rattle.limits.proofs.Laws.{passed, stopped}
use Rattle.output.specs.Output.{leaves, written_from}
use Rattle.dialog_rules.specs.Creation.{texts_cause, form_cause, uri_cause}
use Rattle.creation_checks.specs.Given.{creation_of}
use Rattle.creation_readings.specs.Steps.{side_for}
use Rattle.dialog_creation.proofs.MadeLaws.{refusal}
use Rattle.dialog_creation.proofs.NewLaws.{texts_refused, forms_refused, uris_refused, checks_passed}
use Rattle.dialog_creation.proofs.create.Goals as goal
use Rattle.dialog_creation.proofs.create.Given.{Over}
use Rattle.dialog_creation.proofs.create.Goals.{In_ok-check_texts, In_ok-check_forms, In_ok-check_uris}

-- the causes that were passed
texts_clear : (g : Over) (c : In_ok-check_texts g) → texts_cause rust_limits (creation_of c.args.c) ≡ None
texts_clear g c = passed (texts_cause rust_limits (creation_of c.args.c)) (sym c.check_texts.ensures ∙ c.in_ok-check_texts.was)

forms_clear : (g : Over) (c : In_ok-check_forms g) → form_cause (creation_of c.args.c) ≡ None
forms_clear g c = passed (form_cause (creation_of c.args.c)) (sym c.check_forms.ensures ∙ c.in_ok-check_forms.was)

uris_clear : (g : Over) (c : In_ok-check_uris g) → or_else (uri_cause (creation_of c.args.c).local_uri) (uri_cause (creation_of c.args.c).remote_uri) ≡ None
uris_clear g c = passed (or_else (uri_cause (creation_of c.args.c).local_uri) (uri_cause (creation_of c.args.c).remote_uri)) (sym c.check_uris.ensures ∙ c.in_ok-check_uris.was)

pub returns-in_err-check_texts : goal.returns-in_err-check_texts
returns-in_err-check_texts g c =
    let a = c.args in
    let old : _ × _ = refusal a.out.now (texts_refused rust_limits (side_for g.S.Side.WE_ARE_UAC) (creation_of a.c) (length a.out.now) (stopped (texts_cause rust_limits (creation_of a.c)) (sym c.check_texts.ensures ∙ c.in_err-check_texts.was))) in
    let p = err_from_is_err_and c.from_residual.result c.from_residual.ensures.1 in
    record { value = rw (p.1, p.2) old.0; out_after = old.1 }

pub returns-in_err-check_forms : goal.returns-in_err-check_forms
returns-in_err-check_forms g c =
    let a = c.args in
    let old : _ × _ = refusal a.out.now (forms_refused rust_limits (side_for g.S.Side.WE_ARE_UAC) (creation_of a.c) (length a.out.now) (texts_clear g (goal.at.returns-in_err-check_forms g c).In_ok-check_texts) (stopped (form_cause (creation_of a.c)) (sym c.check_forms.ensures ∙ c.in_err-check_forms.was))) in
    let p = err_from_is_err_and c.from_residual-in_err-check_forms.result c.from_residual-in_err-check_forms.ensures.1 in
    record { value = rw (p.1, p.2) old.0; out_after = old.1 }

pub returns-in_err-check_uris : goal.returns-in_err-check_uris
returns-in_err-check_uris g c =
    let a = c.args in
    let old : _ × _ = refusal a.out.now (uris_refused rust_limits (side_for g.S.Side.WE_ARE_UAC) (creation_of a.c) (length a.out.now) (texts_clear g (goal.at.returns-in_err-check_uris g c).In_ok-check_texts) (forms_clear g (goal.at.returns-in_err-check_uris g c).In_ok-check_forms) (stopped (or_else (uri_cause a.c.local_uri.now) (uri_cause a.c.remote_uri.now)) (sym c.check_uris.ensures ∙ c.in_err-check_uris.was))) in
    let p = err_from_is_err_and c.from_residual-in_err-check_uris.result c.from_residual-in_err-check_uris.ensures.1 in
    record { value = rw (p.1, p.2) old.0; out_after = old.1 }

pub returns : goal.returns
returns g c =
    let a = c.args in
    let old : _ × _ = subst (λ (o : Result (List ℕ) Refusal). (c.make.result ≡ written_from o) × (c.make.new.out ≡ leaves o a.out.now))
    (sym (checks_passed g.S.Side.WE_ARE_UAC a.c (length a.out.now) (texts_clear g (goal.at.returns g c).In_ok-check_texts) (forms_clear g (goal.at.returns g c).In_ok-check_forms) (uris_clear g (goal.at.returns g c).In_ok-check_uris)))
    (c.make.ensures.value, c.make.ensures.out_after) in
    record { value = old.0; out_after = old.1 }
