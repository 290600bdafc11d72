-- The definitions' numbers and the code's: field by field, and the answer of a step case by case. Document 01, "The shape of each place": the record's
-- numbers are a struct of the code, whose methods are the steps.
use Rattle.limits.specs.declared.Refusal.{Refusal}
use Rattle.std.specs.Prelude.{ℕ, Err, None, Ok, Option, Result, Some}
use Rattle.record.specs.Record.{State, early, confirmed, terminated, Side, uac, uas, Numbers}
use Rattle.record.specs.Rules.{Kind, ack, other}
use Rattle.record.specs.declared.numbers.State.{State as CodeState}
use Rattle.record.specs.declared.numbers.State.TheVariants as state
use Rattle.headers.specs.declared.session_timer.Refresher.{Refresher}
use Rattle.headers.specs.declared.session_timer.Refresher.TheVariants as refresher
use Rattle.record.specs.declared.numbers.Numbers.{Numbers as CodeNumbers}
use Rattle.record.specs.declared.numbers.Method.{Method}
use Rattle.record.specs.declared.numbers.Method.TheVariants as method

abbrev pub state_in : CodeState → State
state_in state.Early = early
state_in state.Confirmed = confirmed
state_in state.Terminated = terminated

abbrev pub number_in : Option ℕ → Option ℕ
number_in (Some n) = Some n
number_in None = None

-- who refreshes
abbrev pub side_in : Option Refresher → Option Side
side_in (Some refresher.Uac) = Some uac
side_in (Some refresher.Uas) = Some uas
side_in None = None

-- what the code's numbers say
abbrev pub meaning : CodeNumbers → Numbers
meaning x = record {
  state = state_in x.state;
  local = x.local;
  remote = x.remote;
  last_ack = number_in x.last_ack;
  seconds = number_in x.seconds;
  refresher = side_in x.refresher;
}

abbrev pub kind_in : Method → Kind
kind_in method.Ack = ack
kind_in method.Other = other

-- what a step answers
abbrev pub outcome_in : Result CodeNumbers Refusal → Result Numbers Refusal
outcome_in (Ok x) = Ok (meaning x)
outcome_in (Err cause) = Err cause

-- ---- the code's numbers for given ones

abbrev pub state_from : State → CodeState
state_from early = state.Early
state_from confirmed = state.Confirmed
state_from terminated = state.Terminated

abbrev pub number_from : Option ℕ → Option ℕ
number_from None = None
number_from (Some n) = Some n

abbrev pub side_from : Option Side → Option Refresher
side_from None = None
side_from (Some uac) = Some refresher.Uac
side_from (Some uas) = Some refresher.Uas

abbrev pub numbers_from : Numbers → CodeNumbers
numbers_from x = record {
  state = state_from x.state;
  local = x.local;
  remote = x.remote;
  last_ack = number_from x.last_ack;
  seconds = number_from x.seconds;
  refresher = side_from x.refresher;
}
