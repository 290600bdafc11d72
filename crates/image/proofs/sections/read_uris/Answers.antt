-- `image::read_uris` meets its contract: each URI is read where the one before it ends. Assumes nothing.
use Prim.Native.Nat.{◌≤◌}
use native.Mathlib.Omega.{arith}
use mathlib.Core.Path.{sym, ◌∙◌}
use lib.ListN.{length, drop}
use Rattle.record.specs.Record.{uri_text}
use Rattle.codec.proofs.AnswerLaws.{span_end}
use Rattle.image.proofs.AnswerLaws.{UriGot, uri_got, uri_not}
use Rattle.image.proofs.SectionLaws.{uris_none_2, uris_none_3, uris_whole}
use Rattle.image.proofs.sections.read_uris.Goals as goal
use Rattle.image.proofs.sections.read_uris.Goals.{In_ok-target, In_ok-local_uri, In_ok-remote_uri}

first : (c : In_ok-target) → UriGot c.args.bytes.now c.args.at c.in_ok-target.target c.in_ok-target.field-0-1
first c = uri_got c.args.bytes.now c.args.at c.requires (sym c.read_uri_text.ensures ∙ c.in_ok-target.was)

second : (c : In_ok-local_uri) → let e = span_end c.in_ok-target.target in e ≤ length c.args.bytes.now → UriGot c.args.bytes.now e c.in_ok-local_uri.local_uri c.in_ok-local_uri.local_secure
second c h = uri_got c.args.bytes.now (span_end c.in_ok-target.target) h (sym (rw c.end.ensures at c.read_uri_text-2.ensures) ∙ c.in_ok-local_uri.was)

third : (c : In_ok-remote_uri) → let e = span_end c.in_ok-local_uri.local_uri in e ≤ length c.args.bytes.now → UriGot c.args.bytes.now e c.in_ok-remote_uri.remote_uri c.in_ok-remote_uri.remote_secure
third c h = uri_got c.args.bytes.now (span_end c.in_ok-local_uri.local_uri) h (sym (rw c.end-2.ensures at c.read_uri_text-3.ensures) ∙ c.in_ok-remote_uri.was)

pub end-requires : goal.end-requires
end-requires c = omega (arith, (first (goal.at.end-requires c).In_ok-target).got.within)

pub read_uri_text-requires-2 : goal.read_uri_text-requires-2
read_uri_text-requires-2 c = rw c.end.ensures (first (goal.at.read_uri_text-requires-2 c).In_ok-target).got.within

pub returns-in_err-local_uri : goal.returns-in_err-local_uri
returns-in_err-local_uri c =
    let a = c.args in
    let e = span_end c.in_ok-target.target in
    c.from_residual-in_err-local_uri.ensures ∙ uris_none_2 a.bytes.now a.at (first (goal.at.returns-in_err-local_uri c).In_ok-target) (uri_not e (uri_text.read (drop e a.bytes.now)) (sym (rw c.end.ensures at c.read_uri_text-2.ensures) ∙ c.in_err-local_uri.was))

pub end-requires-2 : goal.end-requires-2
end-requires-2 c =
    let p = goal.at.end-requires-2 c in
    omega (arith, (second p.In_ok-local_uri (first p.In_ok-target).got.within).got.within)

pub read_uri_text-requires-3 : goal.read_uri_text-requires-3
read_uri_text-requires-3 c =
    let p = goal.at.read_uri_text-requires-3 c in
    rw c.end-2.ensures (second p.In_ok-local_uri (first p.In_ok-target).got.within).got.within

pub returns-in_err-remote_uri : goal.returns-in_err-remote_uri
returns-in_err-remote_uri c =
    let a = c.args in
    let p = goal.at.returns-in_err-remote_uri c in
    let x = first p.In_ok-target in
    let e = span_end c.in_ok-local_uri.local_uri in
    c.from_residual-in_err-remote_uri.ensures ∙ uris_none_3 a.bytes.now a.at x (second p.In_ok-local_uri x.got.within) (uri_not e (uri_text.read (drop e a.bytes.now)) (sym (rw c.end-2.ensures at c.read_uri_text-3.ensures) ∙ c.in_err-remote_uri.was))

pub end-requires-3 : goal.end-requires-3
end-requires-3 c =
    let p = goal.at.end-requires-3 c in
    omega (arith, (third p.In_ok-remote_uri (second p.In_ok-local_uri (first p.In_ok-target).got.within).got.within).got.within)

pub returns : goal.returns
returns c =
    let a = c.args in
    let p = goal.at.returns c in
    let x = first p.In_ok-target in
    let y = second p.In_ok-local_uri x.got.within in
    rw c.end-3.ensures (uris_whole a.bytes.now a.at x y (third p.In_ok-remote_uri y.got.within))
