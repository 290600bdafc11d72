-- One record's image given by itself: exactly one image, and nothing after it (document 01, refusal 3).
use Rattle.limits.specs.declared.Refusal.{Refusal}
use Rattle.std.specs.Prelude.{ℕ, List, [], ◌∷◌, None, Option, Result, Some}
use Rattle.limits.specs.Outcome.{or_refuse}
use Rattle.limits.specs.declared.Refusal.TheVariants.{BadStore}
use Rattle.codec.specs.Codec.{Reading}
use Rattle.record.specs.Record.{Record, image}

-- nothing stands after the image
abbrev pub alone : Reading Record → List ℕ → Option Record
alone x [] = Some x.value
alone x (b ∷ s) = None

abbrev pub only_one : Option (Reading Record) → Option Record
only_one None = None
only_one (Some x) = alone x x.rest

-- 3; then the record
unfoldable pub one_record : List ℕ → Result Record Refusal
one_record bytes = or_refuse BadStore (only_one (image.read bytes))
