-- `entries::read_entry` meets its contract: each text is read where the one before it ends, and the number after them. Assumes nothing.
use Prim.Native.Nat.{◌≤◌}
use native.Mathlib.Omega.{arith}
use mathlib.Core.Path.{◌≡◌, sym, ◌∙◌}
use lib.ListN.{length, drop}
use Rattle.codec.specs.Codec.{text}
use Rattle.codec.proofs.AnswerLaws.{span_end, TextGot, text_got, text_not}
use Rattle.rseq_entries.proofs.ReadLaws.{no_second, no_third, no_number, zero_number, whole}
use Rattle.rseq_entries.proofs.entries.read_entry.Goals as goal
use Rattle.rseq_entries.proofs.entries.read_entry.Goals.{In_ok-call_id, In_ok-local_tag, In_ok-remote_tag}

first : (c : In_ok-call_id) → TextGot c.args.bytes.now c.args.at c.in_ok-call_id.call_id
first c = text_got c.args.bytes.now c.args.at c.requires (sym c.read_text.ensures ∙ c.in_ok-call_id.was)

second : (c : In_ok-local_tag) → let e = span_end c.in_ok-call_id.call_id in e ≤ length c.args.bytes.now → TextGot c.args.bytes.now e c.in_ok-local_tag.local_tag
second c h = text_got c.args.bytes.now (span_end c.in_ok-call_id.call_id) h (rw c.end.ensures at (sym c.read_text-2.ensures ∙ c.in_ok-local_tag.was))

third : (c : In_ok-remote_tag) → let e = span_end c.in_ok-local_tag.local_tag in e ≤ length c.args.bytes.now → TextGot c.args.bytes.now e c.in_ok-remote_tag.remote_tag
third c h = text_got c.args.bytes.now (span_end c.in_ok-local_tag.local_tag) h (rw c.end-2.ensures at (sym c.read_text-3.ensures ∙ c.in_ok-remote_tag.was))

pub end-requires : goal.end-requires
end-requires c = omega (arith, (first (goal.at.end-requires c).In_ok-call_id).got.within)

pub read_text-requires-2 : goal.read_text-requires-2
read_text-requires-2 c = omega (arith, (first (goal.at.read_text-requires-2 c).In_ok-call_id).got.within, c.end.ensures)

pub returns-in_err-local_tag : goal.returns-in_err-local_tag
returns-in_err-local_tag c =
    let a = c.args in
    let e = span_end c.in_ok-call_id.call_id in
    c.from_residual-in_err-local_tag.ensures ∙ no_second a.bytes.now a.at (first (goal.at.returns-in_err-local_tag c).In_ok-call_id) (text_not e (text.read (drop e a.bytes.now)) (rw c.end.ensures at (sym c.read_text-2.ensures ∙ c.in_err-local_tag.was)))

pub end-requires-2 : goal.end-requires-2
end-requires-2 c =
    let p = goal.at.end-requires-2 c in
    omega (arith, (second p.In_ok-local_tag (first p.In_ok-call_id).got.within).got.within)

pub read_text-requires-3 : goal.read_text-requires-3
read_text-requires-3 c =
    let p = goal.at.read_text-requires-3 c in
    omega (arith, (second p.In_ok-local_tag (first p.In_ok-call_id).got.within).got.within, c.end-2.ensures)

pub returns-in_err-remote_tag : goal.returns-in_err-remote_tag
returns-in_err-remote_tag c =
    let a = c.args in
    let p = goal.at.returns-in_err-remote_tag c in
    let x = first p.In_ok-call_id in
    let e = span_end c.in_ok-local_tag.local_tag in
    c.from_residual-in_err-remote_tag.ensures ∙ no_third a.bytes.now a.at x (second p.In_ok-local_tag x.got.within) (text_not e (text.read (drop e a.bytes.now)) (rw c.end-2.ensures at (sym c.read_text-3.ensures ∙ c.in_err-remote_tag.was)))

pub end-place-requires : goal.end-place-requires
end-place-requires c =
    let p = goal.at.end-place-requires c in
    omega (arith, (third p.In_ok-remote_tag (second p.In_ok-local_tag (first p.In_ok-call_id).got.within).got.within).got.within)

pub overflow_sub-bytes : goal.overflow_sub-bytes
overflow_sub-bytes c =
    let p = goal.at.overflow_sub-bytes c in
    omega (arith, (third p.In_ok-remote_tag (second p.In_ok-local_tag (first p.In_ok-call_id).got.within).got.within).got.within, c.end-place.ensures)

pub returns-then-bytes-place-lt4 : goal.returns-then-bytes-place-lt4
returns-then-bytes-place-lt4 c =
    let a = c.args in
    let p = goal.at.returns-then-bytes-place-lt4 c in
    let x = first p.In_ok-call_id in
    let y = second p.In_ok-local_tag x.got.within in
    no_number a.bytes.now a.at x y (third p.In_ok-remote_tag y.got.within) (rw c.end-place.ensures at c.if-bytes-place-lt4.true)

pub returns-then-number-eq0 : goal.returns-then-number-eq0
returns-then-number-eq0 c =
    let a = c.args in
    let p = goal.at.returns-then-number-eq0 c in
    let x = first p.In_ok-call_id in
    let y = second p.In_ok-local_tag x.got.within in
    zero_number a.bytes.now a.at x y (third p.In_ok-remote_tag y.got.within) (rw c.end-place.ensures at c.read_four-number.ensures) c.if-number-eq0.true

pub returns : goal.returns
returns c =
    let a = c.args in
    let p = goal.at.returns c in
    let x = first p.In_ok-call_id in
    let y = second p.In_ok-local_tag x.got.within in
    let e : c.end-place.result ≡ span_end c.in_ok-remote_tag.remote_tag = c.end-place.ensures in
    rw e (whole a.bytes.now a.at x y (third p.In_ok-remote_tag y.got.within) (rw e at c.read_four-number.ensures) c.if-number-eq0.false)
