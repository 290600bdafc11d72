-- `marks::head` meets its contract: the eight bytes that it takes are the key's. Assumes nothing.
use Prim.Native.Nat.{◌+◌, ◌-◌, ◌≤◌}
use native.Mathlib.Omega.{arith}
use mathlib.Core.Path.{◌≡◌, ◌∙◌}
use lib.ListN.{length}
use borrow.Author.Tests.{lt-ltb, le-ltb}
use Rattle.codec.proofs.CodecLaws.{Bytes, bytes_all}
use Rattle.distinct.specs.Keys.{key_at}
use Rattle.distinct.specs.Marks.{head_of}
use Rattle.distinct.proofs.KeysAt.{ends_with_key}
use Rattle.distinct.proofs.MarkLaws.{key_eight}
use Rattle.distinct.proofs.marks.head.Goals as goal

pub overflow_sub-end : goal.overflow_sub-end
overflow_sub-end c =
    let b : Bytes c.args.bytes.now = bytes_all c.args.bytes.now (λ i. (c.type_inv.bytes i).fits) in
    omega (arith, c.ids_end-end.ensures.0, ends_with_key c.args.bytes.now c.args.p b c.requires)

pub returns-then-end-p-lt12 : goal.returns-then-end-p-lt12
unfolding head_of
returns-then-end-p-lt12 c =
    let a = c.args in
    let b : Bytes a.bytes.now = bytes_all a.bytes.now (λ i. (c.type_inv.bytes i).fits) in
    let e = ends_with_key a.bytes.now a.p b c.requires in
    rw (lt-ltb (length (key_at a.bytes.now a.p)) 11 (omega (arith, c.ids_end-end.ensures.0, e, c.if-end-p-lt12.true)))

pub returns : goal.returns
unfolding head_of
returns c =
    let a = c.args in
    let b : Bytes a.bytes.now = bytes_all a.bytes.now (λ i. (c.type_inv.bytes i).fits) in
    let k = key_at a.bytes.now a.p in
    let e : c.ids_end-end.result ≡ a.p + 1 + length k = c.ids_end-end.ensures.0 ∙ ends_with_key a.bytes.now a.p b c.requires in
    let l : 11 ≤ length k = omega (arith, e, c.if-end-p-lt12.false) in
    let first = c.eight.ensures ∙ key_eight a.bytes.now a.p b c.requires c.ids_end-end.result e 3 (a.p + 4) (omega arith) (omega (arith, l)) (omega arith) in
    let last = c.eight-2.ensures ∙ key_eight a.bytes.now a.p b c.requires c.ids_end-end.result e (length k - 8) (c.ids_end-end.result - 8) (omega (arith, l)) (omega (arith, l)) (omega (arith, e, l)) in
    rw (le-ltb (length k) 11 l, first, last)
