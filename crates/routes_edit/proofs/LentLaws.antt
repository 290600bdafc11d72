-- Bytes lent from a place on, and put back. Assumes nothing.
use mathlib.Core.Path.{◌≡◌}
use mathlib.Core.List.{List}
use Prim.Native.Nat.{ℕ, ◌+◌, ◌-◌}
use native.Mathlib.Nat.{add-sub_cancel_left}
use borrow.Rule.Slice.PartMut.{put_mid}
use lib.ListN.{length}
use lib.Seq.{drop-drop}
use Rattle.edit.specs.Edit.{put_at}

pub lent_put : (a k : ℕ) (xs ys : List ℕ) → length ys ≡ k → put_mid a (a + k - a) xs ys ≡ put_at a ys xs
lent_put a k xs ys e = rw (add-sub_cancel_left, drop-drop k a xs, e)
