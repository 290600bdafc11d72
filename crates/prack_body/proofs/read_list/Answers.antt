-- `prack_body::read_list` meets its contract: each test picks what is answered. Assumes nothing.
use Prim.Native.Nat.{ℕ, ◌+◌, ◌-◌, ◌*◌, ◌≤◌}
use mathlib.Core.Path.{◌≡◌, ap, sym, ◌∙◌}
use mathlib.Core.Bool.{Bool}
use mathlib.Core.List.{List}
use lib.ListN.{length, take, drop}
use borrow.Author.Tests.{not-false}
use Rattle.codec.proofs.CodecLaws.{bytes_all, bytes_drop}
use Rattle.prack_body.proofs.ReadLaws.{list_many, list_cut, list_whole}
use native.Mathlib.Omega.{arith}
use Rattle.codec.specs.Codec.{read_all}
use Rattle.limits.specs.Settings.{limits_in}
use Rattle.prack_body.specs.Layout.{pending_form}
use Rattle.prack_body.specs.Places.{is_read}
use Rattle.prack_body.proofs.read_list.Goals as goal

-- the entries by the bytes in which they lie
told : (s : List ℕ) (first count : ℕ) {b : Bool} → ((bytes : List ℕ) (from many : ℕ) → from + many * 20 ≤ length bytes → take (first + count * 20 - first) (drop first s) ≡ take (many * 20) (drop from bytes) → b ≡ is_read (read_all pending_form many (drop from bytes)))
    → first + count * 20 ≤ length s → b ≡ is_read (read_all pending_form count (drop first s))
told s first count f h = let n : first + count * 20 - first ≡ count * 20 = omega arith in f s first count h (ap (λ m. take m (drop first s)) n)

pub returns-then-most-count : goal.returns-then-most-count
returns-then-most-count c = let a = c.args in list_many (limits_in a.settings) a.bytes.now a.at (omega arith) (omega arith) (omega arith) c.wide-count.ensures.0 c.wide-count.ensures.1 (bytes_drop (a.at + 2) a.bytes.now (bytes_all a.bytes.now (λ i. (c.shared_slice_known-1.given i).fits))) c.if-most-count.true

pub returns-then-bytes-at-2 : goal.returns-then-bytes-at-2
returns-then-bytes-at-2 c = let a = c.args in list_cut (limits_in a.settings) a.bytes.now a.at (omega arith) (omega arith) (omega arith) c.wide-count.ensures.0 c.wide-count.ensures.1 (bytes_drop (a.at + 2) a.bytes.now (bytes_all a.bytes.now (λ i. (c.shared_slice_known-1.given i).fits))) c.if-bytes-at-2.true

pub returns : goal.returns
returns c = let a = c.args in list_whole (limits_in a.settings) a.bytes.now a.at (omega arith) (omega arith) (omega arith) c.wide-count.ensures.0 c.wide-count.ensures.1 (bytes_drop (a.at + 2) a.bytes.now (bytes_all a.bytes.now (λ i. (c.shared_slice_known-1.given i).fits))) (omega arith) (sym (told a.bytes.now (a.at + 2) c.wide-count.result c.are_entries.ensures (omega arith)) ∙ not-false c.are_entries.result c.if-not-are_entries.false-raw)
