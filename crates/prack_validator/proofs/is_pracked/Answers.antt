-- `is_pracked` meets its contract: the flag of the first entry of the RSeq, where it lies. Assumes nothing.
use Rattle.std.proofs.Common.{◌≡◌, ℕ, List, Bool, Err, None, Ok, Option, Result, Some, refl, sym, ap, ◌∙◌, arith, rules, false}
use Rattle.std.specs.Prelude.{MatchResult}
use Rattle.std.proofs.result.Match.{err_is}
use Rattle.limits.specs.Settings.{limits_in}
use Rattle.text.proofs.Lengths.{length_passed, length_stopped}
use Rattle.limits.specs.declared.Refusal.{Refusal}
use Rattle.codec.proofs.CodecLaws.{bytes_all}
use Rattle.prack_body.specs.Lists.{Pending, entries_of, first_of_rseq, is_acknowledged}
use Rattle.prack_list.specs.Steps.{position_in}
use Rattle.prack_list.specs.declared.finding.PendingAt.{PendingAt}
use Rattle.prack_entries.specs.Places.{Sought}
use Rattle.prack_entries.proofs.SlotLaws.{sought, Found, found, lacking}
use Rattle.prack_validator.specs.Validator.{is_pracked, flag, action_cause, deciding, ran}
use Rattle.prack_validator.proofs.OperationLaws.{long_cause_lem, rest_cause, by_arguments, by_store, by_keeping, pracked_decides, at_flag, no_flag, body_alone}
use Rattle.prack_validator.proofs.AnswerLaws.{DonePracked, pracked_kept, pracked_taken}
use Rattle.prack_validator.proofs.is_pracked.Goals as goal
use Rattle.prack_validator.proofs.is_pracked.Goals.{After-find, After-first_of, In-Ok}

clear : (c : After-find) → action_cause (limits_in c.args.settings) (is_pracked c.args.id.now c.args.rseq) ≡ None
clear c = rest_cause (limits_in c.args.settings) (is_pracked c.args.id.now c.args.rseq) (length_passed (limits_in c.args.settings) c.args.id.now (sym c.check_length.ensures ∙ c.in_ok-check_length.was))

S : (c : In-Ok) → Sought (limits_in c.args.settings) c.args.id.now c.args.bytes.now c.args.used (Ok c.in-Ok.t)
S c = sought (limits_in c.args.settings) c.args.id.now c.args.bytes.now c.args.used (Ok c.in-Ok.t) (sym c.find.ensures ∙ c.in_ok-t.was ∙ ap Ok c.in-Ok.is)

F : (c : In-Ok) → Found (limits_in c.args.settings) c.args.id.now c.args.bytes.now c.args.used c.in-Ok.t (S c).list
F c = found c.args.id.now c.args.bytes.now c.args.used c.in-Ok.t (bytes_all c.args.bytes.now (λ n. (c.type_inv.bytes n).fits)) (S c)

position : (c : After-first_of) (s : Sought (limits_in c.args.settings) c.args.id.now c.args.bytes.now c.args.used (Ok c.in-Ok.t)) (f : Found (limits_in c.args.settings) c.args.id.now c.args.bytes.now c.args.used c.in-Ok.t s.list)
    → c.first_of.result ≡ position_in c.args.rseq f.t.list
position c s f = c.first_of.ensures (limits_in c.args.settings) f.t (rw c.end.ensures (body_alone (bytes_all c.args.bytes.now (λ n. (c.type_inv.bytes n).fits)) s.within f))

answers : (c : In-Ok) (b : Bool) → is_acknowledged (first_of_rseq c.args.rseq (entries_of (F c).t.list)) ≡ b
    → DonePracked c.args.bytes.now c.args.used (ran (limits_in c.args.settings) (is_pracked c.args.id.now c.args.rseq) c.args.bytes.now c.args.used) (Ok b)
answers c b q =
    let a = is_pracked c.args.id.now c.args.rseq in
    let k = rest_cause (limits_in c.args.settings) a (length_passed (limits_in c.args.settings) c.args.id.now (sym c.check_length.ensures ∙ c.in_ok-check_length.was)) in
    pracked_taken c.args.bytes.now c.args.used (by_keeping (limits_in c.args.settings) c.args.bytes.now c.args.used a k (S c) (S c).list (Ok (flag b))
    (pracked_decides (limits_in c.args.settings) c.args.id.now (S c).list c.args.rseq (Some (F c).t) (F c).is ∙ ap (λ (x : Bool). deciding (S c).list (Ok (flag x))) q) (bytes_all c.args.bytes.now (λ n. (c.type_inv.bytes n).fits)) refl)

pub returns-in_err-check_length : goal.returns-in_err-check_length
returns-in_err-check_length c =
    let q = length_stopped (limits_in c.args.settings) c.args.id.now (sym c.check_length.ensures ∙ c.in_err-check_length.was) in
    let e = err_is c.from_residual.result _ c.from_residual.ensures.1 ∙ ap Err q.1 in
    let a = is_pracked c.args.id.now c.args.rseq in
    let old : _ × (_ × _) = pracked_kept c.args.bytes.now c.args.used (by_arguments (limits_in c.args.settings) c.args.bytes.now c.args.used a (long_cause_lem (limits_in c.args.settings) a q.0)) in
    record { value = e ∙ old.0; bytes_value = old.1.0; used_value = old.1.1 }

pub returns-in_err-t : goal.returns-in_err-t
returns-in_err-t c =
    let e = err_is c.from_residual-in_err-t.result _ c.from_residual-in_err-t.ensures.1 in
    let old : _ × (_ × _) = pracked_kept c.args.bytes.now c.args.used (by_store (limits_in c.args.settings) c.args.bytes.now c.args.used (is_pracked c.args.id.now c.args.rseq) (clear (goal.at.returns-in_err-t c).After-find) c.args.id.now (sym c.find.ensures ∙ c.in_err-t.was)) in
    record { value = e ∙ old.0; bytes_value = old.1.0; used_value = old.1.1 }

pub slice_bounds-body-end : goal.slice_bounds-body-end
slice_bounds-body-end c = let i = (goal.at.slice_bounds-body-end c).In-Ok in omega (arith, (F i).text_inside, (F i).end_within, (S i).within, c.end.ensures)

-- the entry that is found, or none
flag_there : (r : ℕ) (o : Option (List Pending)) (p : Result PendingAt Refusal) (b : Bool) → p ≡ position_in r o → MatchResult p (λ e. b ≡ e.acknowledged) (λ _. b ≡ false)
    → is_acknowledged (first_of_rseq r (entries_of o)) ≡ b
flag_there r o (Ok e) b q m = at_flag r o q ∙ sym m
flag_there r o (Err x) b q m = no_flag r o q ∙ sym m

pub returns : goal.returns
returns c =
    let i = (goal.at.returns c).In-Ok in
    let p = position (goal.at.returns c).After-first_of (S i) (F i) in
    let m : MatchResult c.first_of.result (λ e. c.is_ok_and.result ≡ e.acknowledged) (λ _. c.is_ok_and.result ≡ false) = search rules in
    let old : _ × (_ × _) = answers i c.is_ok_and.result (flag_there c.args.rseq (F i).t.list c.first_of.result c.is_ok_and.result p m) in
    record { value = old.0; bytes_value = old.1.0; used_value = old.1.1 }

pub returns-in_default : goal.returns-in_default
unfolding first_of_rseq
returns-in_default c =
    let a = is_pracked c.args.id.now c.args.rseq in
    let w = sought (limits_in c.args.settings) c.args.id.now c.args.bytes.now c.args.used (Err c.in_default.field-0) (sym c.find.ensures ∙ c.in_ok-t.was ∙ ap Ok c.in_default.is) in
    let b = bytes_all c.args.bytes.now (λ n. (c.type_inv.bytes n).fits) in
    let old : _ × (_ × _) = pracked_taken c.args.bytes.now c.args.used (by_keeping (limits_in c.args.settings) c.args.bytes.now c.args.used a (clear (goal.at.returns-in_default c).After-find) w w.list (Ok (flag false))
    (pracked_decides (limits_in c.args.settings) c.args.id.now w.list c.args.rseq None (lacking c.args.id.now c.args.bytes.now c.args.used c.in_default.field-0 b w).0) b refl) in
    record { value = old.0; bytes_value = old.1.0; used_value = old.1.1 }
