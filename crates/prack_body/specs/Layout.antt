-- The bytes of what is held for one identifier text. Document 01, "Intervals, PRACK, RSeq": the layout is the team's, "written in docs/ first"; it is that of
-- docs/LAYOUTS.md, "The PRACK store". Big-endian: the text with two length bytes, the last cleanup's time in eight bytes, a byte that is 1 where a list stands
-- and otherwise 0; then, where it stands, a count byte and the entries of 20 bytes each. A list has at most as many entries as the limits say.
use Rattle.std.specs.Prelude.{ℕ, ◌<◌, ◌≡◌, Bool, true, false, List, [], ◌∷◌, ◌++◌, length, leb, eqb, None, Option, Some}
use Rattle.limits.specs.Limits.{LimitSet}
use Rattle.codec.specs.Codec.{Reading, Codec, Pair, then, such, renamed, mapped, byte, two, four, eight, text, counted}
use Rattle.methods.specs.Methods.{is_method}
use Rattle.prack_body.specs.Lists.{Pending, Tracked, entries_of}

-- ---- small forms

-- a byte 0 or 1
abbrev pub is_bit : ℕ → Bool
is_bit n = leb n 1

abbrev pub from_bit : ℕ → Bool
from_bit n = eqb n 1

abbrev pub to_bit : Bool → ℕ
to_bit true = 1
to_bit false = 0

abbrev pub bit : Codec Bool
bit = mapped from_bit to_bit (such byte is_bit)

-- a value that may be absent: a byte that says whether it stands, then the value
abbrev pub write_option : {A : Type 0} → Codec A → Option A → List ℕ
write_option c None = 0 ∷ []
write_option c (Some a) = 1 ∷ c.write a

abbrev pub option_after : {A : Type 0} → Codec A → Bool → List ℕ → Option (Reading (Option A))
option_after c false s = Some (record { value = None; rest = s })
option_after c true s = renamed Some (c.read s)

abbrev pub read_option : {A : Type 0} → Codec A → Option (Reading Bool) → Option (Reading (Option A))
read_option c None = None
read_option c (Some r) = option_after c r.value r.rest

abbrev pub optional : {A : Type 0} → Codec A → Codec (Option A)
optional c = record { write = write_option c; read = λ s. read_option c (bit.read s) }

-- ---- an entry: RSeq, CSeq, method number, code, acknowledged, registered at

abbrev pub Parts : Type 0
Parts = Pair ℕ (Pair ℕ (Pair ℕ (Pair ℕ (Pair Bool ℕ))))

abbrev pub pending_from : Parts → Pending
pending_from p = record {
  rseq = p.first;
  cseq = p.second.first;
  method = p.second.second.first;
  code = p.second.second.second.first;
  acknowledged = p.second.second.second.second.first;
  registered_at = p.second.second.second.second.second;
}

abbrev pub pending_parts : Pending → Parts
pending_parts p = record {
  first = p.rseq;
  second = record {
    first = p.cseq;
    second = record { first = p.method; second = record { first = p.code; second = record { first = p.acknowledged; second = p.registered_at } } };
  };
}

abbrev pub pending_form : Codec Pending
pending_form = mapped pending_from pending_parts (then four (then four (then (such byte is_method) (then two (then bit eight)))))

pub record PendingFormed (p : Pending) : Type 0 where
  pub rseq_fits : p.rseq < 4294967296
  pub cseq_fits : p.cseq < 4294967296
  pub method_known : is_method p.method ≡ true
  pub code_fits : p.code < 65536
  pub time_fits : p.registered_at < 18446744073709551616

-- ---- what is held for an identifier text

abbrev pub is_short : LimitSet → List Pending → Bool
is_short L ps = leb (length ps) L.pending

abbrev pub list_form : LimitSet → Codec (Option (List Pending))
list_form L = optional (such (counted pending_form) (is_short L))

abbrev pub tracked_from : Pair (List ℕ) (Pair ℕ (Option (List Pending))) → Tracked
tracked_from p = record { id = p.first; cleaned_at = p.second.first; list = p.second.second }

abbrev pub tracked_parts : Tracked → Pair (List ℕ) (Pair ℕ (Option (List Pending)))
tracked_parts t = record { first = t.id; second = record { first = t.cleaned_at; second = t.list } }

abbrev pub tracked_form : LimitSet → Codec Tracked
tracked_form L = mapped tracked_from tracked_parts (then text (then eight (list_form L)))

abbrev pub AllFormed : List Pending → Type 0
AllFormed [] = Unit {0}
AllFormed (p ∷ ps) = PendingFormed p × AllFormed ps

abbrev pub ListFormed : LimitSet → Option (List Pending) → Type 0
ListFormed L None = Unit {0}
ListFormed L (Some ps) = AllFormed ps × (is_short L ps ≡ true)

pub record TrackedFormed (L : LimitSet) (t : Tracked) : Type 0 where
  pub id_short : length t.id < 65536
  pub time_fits : t.cleaned_at < 18446744073709551616
  pub list_formed : ListFormed L t.list

-- it has bytes: formed, and its entries can be counted in one byte, as in every permitted set
abbrev pub TrackedWhole : LimitSet → Tracked → Type 0
TrackedWhole L t = TrackedFormed L t × (length (entries_of t.list) < 256)

-- ---- what `get_pending` writes

-- RSeq in four bytes and code in two, in list order: docs/LAYOUTS.md, "The pending responses of a dialog"
unfoldable pub open_bytes : List Pending → List ℕ
open_bytes [] = []
open_bytes (p ∷ ps) = (four.write p.rseq ++ two.write p.code) ++ open_bytes ps
