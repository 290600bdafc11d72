-- `image::read_ids` meets its contract: each part is read where the one before it ends. Assumes nothing.
use Prim.Native.Nat.{◌≤◌}
use native.Mathlib.Omega.{arith}
use mathlib.Core.Path.{◌∙◌}
use lib.ListN.{length}
use Rattle.record.specs.Record.{stands}
use Rattle.codec.proofs.AnswerLaws.{span_end}
use Rattle.image.proofs.AnswerLaws.{IdGot}
use Rattle.image.proofs.SectionLaws.{id_told, id_none, ids_none_2, ids_none_3, ids_whole}
use Rattle.image.proofs.sections.read_ids.Goals as goal
use Rattle.image.proofs.sections.read_ids.Goals.{In_ok-call_id, In_ok-local_tag, In_ok-remote_tag}

first : (c : In_ok-call_id) → IdGot (stands 0 c.args.map) c.args.bytes.now c.args.at c.in_ok-call_id.call_id
first c = id_told c.args.bytes.now c.args.at c.bit.ensures c.requires c.read_part.ensures c.in_ok-call_id.was

second : (c : In_ok-local_tag) → let e = span_end c.in_ok-call_id.call_id in e ≤ length c.args.bytes.now → IdGot (stands 1 c.args.map) c.args.bytes.now e c.in_ok-local_tag.local_tag
second c h = id_told c.args.bytes.now (span_end c.in_ok-call_id.call_id) c.bit-2.ensures h (rw c.end.ensures at c.read_part-2.ensures) c.in_ok-local_tag.was

third : (c : In_ok-remote_tag) → let e = span_end c.in_ok-local_tag.local_tag in e ≤ length c.args.bytes.now → IdGot (stands 2 c.args.map) c.args.bytes.now e c.in_ok-remote_tag.remote_tag
third c h = id_told c.args.bytes.now (span_end c.in_ok-local_tag.local_tag) c.bit-3.ensures h (rw c.end-2.ensures at c.read_part-3.ensures) c.in_ok-remote_tag.was

pub end-requires : goal.end-requires
end-requires c = omega (arith, (first (goal.at.end-requires c).In_ok-call_id).got.within)

pub read_part-requires-2 : goal.read_part-requires-2
read_part-requires-2 c = rw c.end.ensures (first (goal.at.read_part-requires-2 c).In_ok-call_id).got.within

pub returns-in_err-local_tag : goal.returns-in_err-local_tag
returns-in_err-local_tag c =
    let a = c.args in
    c.from_residual-in_err-local_tag.ensures ∙ ids_none_2 a.map a.bytes.now a.at (first (goal.at.returns-in_err-local_tag c).In_ok-call_id) (id_none a.bytes.now (span_end c.in_ok-call_id.call_id) c.bit-2.ensures (rw c.end.ensures at c.read_part-2.ensures) c.in_err-local_tag.was)

pub end-requires-2 : goal.end-requires-2
end-requires-2 c =
    let p = goal.at.end-requires-2 c in
    omega (arith, (second p.In_ok-local_tag (first p.In_ok-call_id).got.within).got.within)

pub read_part-requires-3 : goal.read_part-requires-3
read_part-requires-3 c =
    let p = goal.at.read_part-requires-3 c in
    rw c.end-2.ensures (second p.In_ok-local_tag (first p.In_ok-call_id).got.within).got.within

pub returns-in_err-remote_tag : goal.returns-in_err-remote_tag
returns-in_err-remote_tag c =
    let a = c.args in
    let p = goal.at.returns-in_err-remote_tag c in
    let x = first p.In_ok-call_id in
    c.from_residual-in_err-remote_tag.ensures ∙ ids_none_3 a.map a.bytes.now a.at x (second p.In_ok-local_tag x.got.within) (id_none a.bytes.now (span_end c.in_ok-local_tag.local_tag) c.bit-3.ensures (rw c.end-2.ensures at c.read_part-3.ensures) c.in_err-remote_tag.was)

pub end-requires-3 : goal.end-requires-3
end-requires-3 c =
    let p = goal.at.end-requires-3 c in
    omega (arith, (third p.In_ok-remote_tag (second p.In_ok-local_tag (first p.In_ok-call_id).got.within).got.within).got.within)

pub returns : goal.returns
returns c =
    let a = c.args in
    let p = goal.at.returns c in
    let x = first p.In_ok-call_id in
    let y = second p.In_ok-local_tag x.got.within in
    rw c.end-3.ensures (ids_whole a.map a.bytes.now a.at x y (third p.In_ok-remote_tag y.got.within))
