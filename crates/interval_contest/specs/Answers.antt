-- Document 02, request 12. The answers of this crate's functions, as values of the definitions. A refusal's number and value are those of its cause (crate `limits`).
use Rattle.limits.specs.declared.Refusal.{Refusal}
use Rattle.std.specs.Prelude.{Err, None, Ok, Option, Result, Some, ℕ}
use Rattle.interval_contest.specs.Contest.{Extent, Power}
use Rattle.interval_contest.specs.declared.Contest.{Contest}

abbrev pub extent_in : Option (ℕ × ℕ) → Option Extent
extent_in (Some (least, most)) = Some (record { least = least; most = most })
extent_in None = None

abbrev pub power_in : Contest → Power
power_in c = record { first = extent_in c.first; retry = extent_in c.retry; only_requested = c.only_requested }

abbrev pub outcome_in : Result Contest Refusal → Result Power Refusal
outcome_in (Ok c) = Ok (power_in c)
outcome_in (Err cause) = Err cause
