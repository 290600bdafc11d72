-- `store_ids::all_ids` meets its contract: 3, 18, then the identifiers of all records. Assumes nothing.
use Prim.Native.Nat.{ℕ, ◌<◌}
use mathlib.Core.Path.{◌≡◌, ap, subst, ◌∙◌}
use mathlib.Core.List.{List}
use lib.ListN.{length, take}
use Rattle.std.proofs.result.Match.{err_is}
use Rattle.std.specs.Prelude.{Ok}
use Rattle.limits.specs.Limits.{rust_limits}
use Rattle.codec.proofs.CodecLaws.{bytes_all}
use Rattle.book.specs.Calls.{Answer}
use Rattle.record.specs.Store.{decode_all}
use Rattle.edit.specs.Edit.{over}
use Rattle.store.specs.Counting.{ReadAs}
use Rattle.book.specs.Store.{output_after}
use Rattle.dialog_manager.proofs.LookupLaws.{Kept, kept_by}
use Rattle.dialog_manager.specs.Answers.{ids_written}
use Rattle.store_ids.specs.Identifiers.{ids_in}
use Rattle.store_ids.proofs.IdentifierLaws.{unread, too_long, fitting}
use native.Mathlib.Omega.{arith}
use Rattle.store_ids.proofs.all_ids.Goals as goal
use Rattle.store_ids.proofs.all_ids.Goals.{In_ok-held}

-- the store was read
opened : (c : In_ok-held) → ReadAs c.args.bytes.now c.args.used (Ok c.in_ok-held.held)
opened c = subst (ReadAs c.args.bytes.now c.args.used) c.in_ok-held.was c.read.ensures

store : (c : In_ok-held) → Kept (c.args.bytes.now) c.args.used
store c = kept_by (c.args.bytes.now) c.args.used c.in_ok-held.held (opened c)

-- the identifiers of its records
abbrev ids : In_ok-held → List ℕ
ids c = ids_in (decode_all (take c.args.used (c.args.bytes.now)))

same : (c : In_ok-held) → ids_in (decode_all c.in_ok-held.held.bytes.now) ≡ ids c
same c = ap (λ (s : List ℕ). ids_in (decode_all s)) (opened c).1

pub returns-in_err-held : goal.returns-in_err-held
returns-in_err-held c =
    let a = c.args in
    let e = unread rust_limits (length (c.args.bytes.now)) (length a.out.now) (c.args.bytes.now) a.used (bytes_all (c.args.bytes.now) (λ i. (c.type_inv.bytes i).fits)) (subst (ReadAs c.args.bytes.now c.args.used) c.in_err-held.was c.read.ensures) in
    record { value = (err_is c.from_residual.result _ c.from_residual.ensures.1) ∙ ap ids_written e; out_after = ap (λ (x : Answer). output_after x a.out.now) e }

pub returns-then-out-n : goal.returns-then-out-n
returns-then-out-n c =
    let a = c.args in
    let h : length a.out.now < length (ids (goal.at.returns-then-out-n c).In_ok-held) = omega (arith, c.if-out-n.true, c.ids_size-n.ensures, ap length (same (goal.at.returns-then-out-n c).In_ok-held)) in
    let e = too_long rust_limits (length (c.args.bytes.now)) (length a.out.now) (c.args.bytes.now) a.used (bytes_all (c.args.bytes.now) (λ i. (c.type_inv.bytes i).fits)) (store (goal.at.returns-then-out-n c).In_ok-held) h in
    record { value = ap ids_written e; out_after = ap (λ (x : Answer). output_after x a.out.now) e }

pub returns : goal.returns
returns c =
    let a = c.args in
    let e = fitting rust_limits (length (c.args.bytes.now)) (length a.out.now) (c.args.bytes.now) a.used (bytes_all (c.args.bytes.now) (λ i. (c.type_inv.bytes i).fits)) (store (goal.at.returns c).In_ok-held) (omega (arith, c.if-out-n.false, c.ids_size-n.ensures, ap length (same (goal.at.returns c).In_ok-held))) in
    record { value = ap Ok (c.ids_size-n.ensures ∙ ap length (same (goal.at.returns c).In_ok-held)) ∙ ap ids_written e; out_after = c.write_all.ensures ∙ ap (λ (l : List ℕ). over l a.out.now) (same (goal.at.returns c).In_ok-held) ∙ ap (λ (x : Answer). output_after x a.out.now) e }
