-- A step of the code: why the layout of the PRACK store is what the search in a store of entries asks of one. A trait's law is given from here, so these
-- proofs stand beside the definitions. Assumes nothing.
use Prim.Native.Nat.{ℕ, ◌+◌, ◌<◌}
use native.Mathlib.Omega.{arith}
use mathlib.Core.Path.{◌≡◌, ap}
use mathlib.Core.List.{List, ◌++◌}
use lib.ListN.{length, drop, length-append, length-drop}
use Rattle.limits.specs.Limits.{LimitSet}
use Rattle.codec.specs.Codec.{Codec}
use Rattle.codec.proofs.CodecLaws.{Exact}
use Rattle.text.specs.Spans.{part_in, PartWithin}
use Rattle.ordered_store.specs.Layout.{Lawful}
use Rattle.prack_body.specs.Lists.{Tracked}
use Rattle.prack_body.specs.Layout.{tracked_form, TrackedWhole}
use Rattle.prack_body.specs.Places.{tracked_places}
use Rattle.prack_body.specs.Body.{body_of}
use Rattle.prack_body.proofs.LayoutLaws.{whole_exact, tracked_long}
use Rattle.prack_body.proofs.BodyLaws.{places_end, text_lies}
use Rattle.prack_entries.specs.Entries.{key_of_text, key_of}
use Rattle.prack_entries.specs.Places.{layout}

-- the form of what is held, by a set of limits
abbrev pub form : LimitSet → Codec Tracked
form L = tracked_form L

module _ (L : LimitSet) where
  pub exact : Exact (form L) (TrackedWhole L)
  exact = whole_exact L

  -- its bytes: two length bytes, the text, and the body
  pub size : (t : Tracked) → length ((form L).write t) ≡ 2 + length t.id + length (body_of L t)
  size t = omega (arith, length-append t.id (body_of L t))

  pub filled : (t : Tracked) → 0 < length ((form L).write t)
  filled t = omega (arith, tracked_long L t)

  -- the text lies at its place
  pub lies : (s : List ℕ) (at : ℕ) (t : Tracked) (rest : List ℕ) → drop at s ≡ (form L).write t ++ rest
      → (key_of_text (part_in s (tracked_places at t).id) ≡ key_of t) × PartWithin s (tracked_places at t).id
  lies s at t rest starts = (ap key_of_text (text_lies L s at t rest starts), omega (arith, ap length starts, length-append ((form L).write t) rest, length-drop at s, size t))

  pub lawful : Lawful (layout L)
  lawful = record { exact = exact; filled = filled; ends = places_end L; lies = lies }
