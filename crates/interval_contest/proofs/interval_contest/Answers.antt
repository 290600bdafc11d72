-- `interval_contest::interval_contest` meets its contract: its answer is the closed form, which settles the offer. Assumes nothing.
use mathlib.Core.Path.{◌≡◌, sym, ◌∙◌}
use Rattle.std.specs.Prelude.{None}
use Rattle.limits.specs.Limits.{rust_limits}
use Rattle.limits.proofs.Laws.{passed}
use Rattle.interval_contest.specs.Contest.{Offer, offer_cause}
use Rattle.interval_contest.proofs.Settled.{no_cause, power_over}
use Rattle.interval_contest.proofs.interval_contest.Goals as goal

pub returns : goal.returns
returns c =
    let a = c.args in
    let offer : Offer = record { requested = a.requested; min_se = a.min_se } in
    let clear : offer_cause rust_limits offer ≡ None = passed (offer_cause rust_limits offer) (sym c.check_offer.ensures ∙ c.in_ok-check_offer.was) in
    (clear, rw c.at_retry.ensures (power_over rust_limits offer ((no_cause rust_limits offer).0 clear)))
