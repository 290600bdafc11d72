-- Steps of the code: a column with the byte after it, and the three parts of a line. `line_parts` says that they make the line.
use Rattle.std.specs.Prelude.{ℕ, Bool, List, [], ◌∷◌, ◌++◌, length, None, Option, Some}
use Rattle.output.specs.Decimal.{decimal_of}
use Rattle.record.specs.Record.{State, Record}
use Rattle.record.specs.Store.{records_in}
use Rattle.listing_lines.specs.Listing.{state_letter, side_text, or_dash, refresh_second, lines_from}

-- a column and a space, or a line feed
abbrev pub spaced : List ℕ → List ℕ
spaced s = s ++ (32 ∷ [])

abbrev pub ended : List ℕ → List ℕ
ended s = s ++ (10 ∷ [])

-- position, state, side
abbrev pub head_part : ℕ → State → Bool → List ℕ
head_part position state we_are_uac = spaced (decimal_of position) ++ (spaced (state_letter state) ++ spaced (side_text we_are_uac))

-- local, remote, last ACK
abbrev pub sequence_part : ℕ → ℕ → Option ℕ → List ℕ
sequence_part local remote last_ack = spaced (decimal_of local) ++ (spaced (decimal_of remote) ++ spaced (or_dash last_ack))

-- seconds, refresh second, route count
abbrev pub interval_part : Option ℕ → ℕ → List ℕ
interval_part seconds routes = spaced (or_dash seconds) ++ (spaced (or_dash (refresh_second seconds)) ++ ended (decimal_of routes))

-- the records of bytes that are whole records
abbrev pub records_of : Option (List Record) → List Record
records_of None = []
records_of (Some rs) = rs

abbrev pub listed : List ℕ → List Record
listed s = records_of (records_in (length s) s)

-- their lines
abbrev pub listed_lines : List ℕ → List ℕ
listed_lines s = lines_from 1 (listed s)
