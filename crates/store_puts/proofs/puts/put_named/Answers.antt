-- `puts::put_named` meets its contract: 17, then the image in its place, or after all others. Assumes nothing.
use Prim.Native.Nat.{◌≤◌}
use mathlib.Core.Path.{sym, subst, ◌∙◌}
use lib.ListN.{length, take}
use Rattle.std.specs.Prelude.{Some}
use Rattle.limits.specs.Settings.{limits_in}
use Rattle.codec.proofs.CodecLaws.{Bytes, bytes_all}
use Rattle.dialog_manager.specs.Search.{Stands}
use Rattle.store_puts.proofs.PutLaws.{crowded, added_new, replaced_old, found_within}
use Rattle.store_edits.proofs.RemoveLaws.{turned_back}
use native.Mathlib.Omega.{arith}
use Rattle.store_puts.proofs.puts.put_named.Goals as goal

pub returns-then-is_crowded : goal.returns-then-is_crowded
returns-then-is_crowded c =
    let a = c.args in
    let t = turned_back (crowded (limits_in c.args.settings) (length a.bytes.now) a.image.now a.bytes.now a.used a.state a.id.call_id.now a.id.local_tag.now a.id.remote_tag.now c.requires.named c.requires.fact (sym c.is_crowded.ensures ∙ c.if-is_crowded.true)) in
    record { value = t.0; bytes_after = t.1 }

pub returns-in_default : goal.returns-in_default
returns-in_default c =
    let a = c.args in
    let b : Bytes a.bytes.now = bytes_all a.bytes.now (λ i. (c.slice_known-1.given i).fits) in
    let w = added_new (limits_in c.args.settings) (length a.bytes.now) a.image.now a.bytes.now a.used a.state a.id.call_id.now a.id.local_tag.now a.id.remote_tag.now c.requires.named c.requires.fact b (sym c.is_crowded.ensures ∙ c.if-is_crowded.false) (sym c.in_default.is ∙ c.search_id.ensures.value) in
    record { value = c.add.ensures.value ∙ w.answer; bytes_after = c.add.ensures.bytes_after ∙ w.bytes }

pub overflow_sub-r : goal.overflow_sub-r
overflow_sub-r c =
    let a = c.args in
    let b : Bytes a.bytes.now = bytes_all a.bytes.now (λ i. (c.slice_known-1.given i).fits) in
    let h : Stands (take a.used a.bytes.now) (Some (c.in-Some.at, c.in-Some.r)) = subst (Stands (take a.used a.bytes.now)) c.in-Some.is c.search_id.ensures.stands in
    let l : (c.in-Some.at ≤ c.in-Some.r.end) × (c.in-Some.r.end ≤ a.used) = found_within a.bytes.now a.used b c.requires.fact.within c.in-Some.at c.in-Some.r h in
    omega (arith, l.0)

pub replace-requires : goal.replace-requires
replace-requires c =
    let a = c.args in
    let b : Bytes a.bytes.now = bytes_all a.bytes.now (λ i. (c.slice_known-1.given i).fits) in
    let h : Stands (take a.used a.bytes.now) (Some (c.in-Some.at, c.in-Some.r)) = subst (Stands (take a.used a.bytes.now)) c.in-Some.is c.search_id.ensures.stands in
    let l : (c.in-Some.at ≤ c.in-Some.r.end) × (c.in-Some.r.end ≤ a.used) = found_within a.bytes.now a.used b c.requires.fact.within c.in-Some.at c.in-Some.r h in
    (omega (arith, l.0, l.1), c.requires.fact.within)

pub returns : goal.returns
returns c =
    let a = c.args in
    let b : Bytes a.bytes.now = bytes_all a.bytes.now (λ i. (c.slice_known-1.given i).fits) in
    let h : Stands (take a.used a.bytes.now) (Some (c.in-Some.at, c.in-Some.r)) = subst (Stands (take a.used a.bytes.now)) c.in-Some.is c.search_id.ensures.stands in
    let w = replaced_old (limits_in c.args.settings) (length a.bytes.now) a.image.now a.bytes.now a.used a.state a.id.call_id.now a.id.local_tag.now a.id.remote_tag.now c.requires.named c.requires.fact b (sym c.is_crowded.ensures ∙ c.if-is_crowded.false) c.in-Some.at c.in-Some.r h (sym c.in-Some.is ∙ c.search_id.ensures.value) in
    record { value = c.replace.ensures.value ∙ w.answer; bytes_after = c.replace.ensures.bytes_after ∙ w.bytes }
