-- Steps of the code: where the parts lie of what is held for one identifier text, read at a place of lent bytes. What the parts are is `tracked_form.read`
-- alone (specs/Layout.antt); here are only their places.
use Rattle.std.specs.Prelude.{ℕ, ◌+◌, ◌*◌, Bool, true, false, List, length, None, Option, Some}
use Rattle.codec.specs.Codec.{Reading}
use Rattle.prack_body.specs.Lists.{Pending, Tracked}
use Rattle.prack_body.specs.declared.ListAt.{ListAt}
use Rattle.prack_body.specs.declared.TrackedAt.{TrackedAt}

-- whether something was read
abbrev pub is_read : {A : Type 0} → Option (Reading A) → Bool
is_read None = false
is_read (Some x) = true

-- the list whose first byte lies at the place
abbrev pub list_places : ℕ → Option (List Pending) → ListAt
list_places at None = record { entries = None; end = at + 1 }
list_places at (Some ps) = record { entries = Some (record { count = length ps; first = at + 2 }); end = at + 2 + length ps * 20 }

abbrev pub list_from : ℕ → Option (Reading (Option (List Pending))) → Option ListAt
list_from at None = None
list_from at (Some x) = Some (list_places at x.value)

-- what is held, whose text's length bytes lie at the place
abbrev pub tracked_places : ℕ → Tracked → TrackedAt
tracked_places at t =
    let l = list_places (at + 2 + length t.id + 8) t.list in
    record {
      id = record { start = at + 2; length = length t.id };
      cleaned_at = t.cleaned_at;
      entries = l.entries;
      end = l.end;
    }

abbrev pub tracked_from : ℕ → Option (Reading Tracked) → Option TrackedAt
tracked_from at None = None
tracked_from at (Some x) = Some (tracked_places at x.value)
