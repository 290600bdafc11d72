-- Steps of the code: what is held for one identifier text, held in a small array without the text. Its bytes are those behind the text in the
-- store: eight bytes of time, the list's byte, and, where a list stands, its count byte and its entries (specs/Layout.antt).
use Rattle.std.specs.Prelude.{ℕ, ◌+◌, ◌*◌, ◌≡◌, List, ◌++◌, length, take, drop, Some}
use Rattle.limits.specs.Limits.{LimitSet}
use Rattle.codec.specs.Codec.{write_all, eight}
use Rattle.prack_body.specs.Lists.{Pending, Tracked}
use Rattle.prack_body.specs.Layout.{pending_form, list_form, tracked_form, TrackedFormed}
use Rattle.prack_body.specs.Places.{tracked_places}
use Rattle.prack_body.specs.declared.TrackedAt.{TrackedAt}

-- the most entries that a set of limits may give a list (document 02, request 7)
abbrev pub most_pending : ℕ
most_pending = 32

-- its bytes with so many entries
abbrev pub body_room : ℕ
body_room = 10 + most_pending * 20

abbrev pub body_of : LimitSet → Tracked → List ℕ
body_of L t = eight.write t.cleaned_at ++ (list_form L).write t.list

-- the first n bytes are the body of what is held
pub record Holds (L : LimitSet) (bytes : List ℕ) (n : ℕ) (t : Tracked) : Type 0 where
  pub formed : TrackedFormed L t
  pub long : n ≡ length (body_of L t)
  pub are : take n bytes ≡ body_of L t

-- what is held was read from the bytes, and lies at these places
pub record Stands (L : LimitSet) (bytes : List ℕ) (p : TrackedAt) (t : Tracked) : Type 0 where
  pub at : ℕ
  pub rest : List ℕ
  pub reads : (tracked_form L).read (drop at bytes) ≡ Some (record { value = t; rest = rest })
  pub placed : p ≡ tracked_places at t

-- entries that lie behind the first ten bytes, which are what they were, and how many they are
pub record Kept (before : List ℕ) (ps : List Pending) (after : List ℕ) (count : ℕ) : Type 0 where
  pub counts : count ≡ length ps
  pub are : take (10 + count * 20) after ≡ take 10 before ++ write_all pending_form ps
