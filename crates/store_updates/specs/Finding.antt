-- A step of the code: the record of an identifier, found after the arguments are checked.
use Rattle.std.specs.Prelude.{ℕ, List, Option, Result}
use Rattle.limits.specs.Limits.{rust_limits}
use Rattle.limits.specs.Outcome.{or_else, refuse_by}
use Rattle.limits.specs.declared.Refusal.{Refusal}
use Rattle.dialog_id.specs.Ident.{Ident, ident_cause}
use Rattle.dialog_manager.specs.Search.{Spot}
use Rattle.store_entries.specs.Entries.{spot_in}

-- 1 of the identifier, what the other arguments refuse, 3, 15
abbrev pub found_in : Ident → Option Refusal → List ℕ → ℕ → Result Spot Refusal
found_in i others bytes used = refuse_by (or_else (ident_cause rust_limits i) others) (spot_in i bytes used)
