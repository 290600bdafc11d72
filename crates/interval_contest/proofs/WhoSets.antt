-- Change request 12, "Who sets the interval": what is to be shown, for every offer within the bounds and every callee. Assumes nothing.
use Prim.Native.Nat.{ℕ, ◌≤◌, ◌<◌, ◌+◌}
use native.Mathlib.Omega.{arith}
use mathlib.Core.Path.{◌≡◌, refl, ap, ◌∙◌}
use mathlib.Core.Logic.{◌↔◌, ◌⊎◌, inl, inr}
use mathlib.Core.Bool.{Bool, true, false}
use lib.Dec.{ltb}
use borrow.Author.Tests.{ltb-true, ltb-false}
use Rattle.std.specs.Prelude.{Err, None, Ok, Some}
use Rattle.limits.specs.Limits.{LimitSet}
use Rattle.limits.specs.Outcome.{number_in}
use Rattle.limits.specs.declared.Refusal.TheVariants.{SessionExpiresTooSmall}
use Rattle.interval_contest.specs.Contest.{Offer, Within, Callee, Permitted, answer, answer_at, first_answer, retry_answer, Agrees, TurnsBack, ending, Forces, OnlyRequested}
use Rattle.interval_contest.proofs.AnswerLaws.{taken, turned_back, retried, no_retry, past_the_most}

module _ (L : LimitSet) (offer : Offer) (within : Within L offer) where
  -- ---- the first answer

  agrees : (callee : Callee) → callee.minimum ≤ offer.requested → Agrees offer callee
  agrees callee h = let b = within.between in (_, taken offer callee b h, omega arith, omega arith)

  -- "unless it refuses, no other": whatever a callee picks, it agrees on an interval from M to R or refuses by 13
  pub agrees_or_13 : (callee : Callee) → Agrees offer callee ⊎ TurnsBack offer callee
  agrees_or_13 callee = by (ltb offer.requested callee.minimum) refl
    where
      by : (t : Bool) → ltb offer.requested callee.minimum ≡ t → Agrees offer callee ⊎ TurnsBack offer callee
      by true h = inr (turned_back offer callee within.between (ltb-true _ _ h))
      by false h = inl (agrees callee (ltb-false _ _ h))

  -- 13 exactly if the callee's minimum is above R, and with that minimum
  pub refuses_exactly : (callee : Callee) (least : ℕ) → (answer offer callee ≡ Err (SessionExpiresTooSmall least)) ↔ ((offer.requested < callee.minimum) × (least ≡ callee.minimum))
  refuses_exactly callee least = (above, λ h. turned_back offer callee within.between h.0 ∙ ap (λ n. Err (SessionExpiresTooSmall n)) (omega (arith, h.1)))
    where
      above : answer offer callee ≡ Err (SessionExpiresTooSmall least) → (offer.requested < callee.minimum) × (least ≡ callee.minimum)
      above e = by (ltb offer.requested callee.minimum) refl
        where
          by : (t : Bool) → ltb offer.requested callee.minimum ≡ t → (offer.requested < callee.minimum) × (least ≡ callee.minimum)
          by true h =
              let k = ltb-true _ _ h in
              let f = turned_back offer callee within.between k in
              (k, cc)
          by false h =
              let f = taken offer callee within.between (ltb-false _ _ h) in
              absurd (let z : ◌≡◌ {A = ℕ} 0 1 = cc in omega arith)

  -- "the callee can force every interval from M to R and, unless it refuses, no other"
  pub forces_first : (interval : ℕ) → Forces L first_answer offer interval ↔ ((offer.min_se ≤ interval) × (interval ≤ offer.requested))
  forces_first interval = (λ f. between f.0 f.2 (agrees_or_13 f.0), forced)
    where
      between : (callee : Callee) → answer_at L first_answer offer callee ≡ Some (Ok interval) → Agrees offer callee ⊎ TurnsBack offer callee → (offer.min_se ≤ interval) × (interval ≤ offer.requested)
      between callee e (inl a) =
          let f = a.1 in
          let same : a.0 ≡ interval = cc in
          (omega (arith, a.2), omega (arith, a.3))
      between callee e (inr f) = absurd (let z : ◌≡◌ {A = ℕ} 0 1 = cc in omega arith)

      forced : (offer.min_se ≤ interval) × (interval ≤ offer.requested) → Forces L first_answer offer interval
      forced h =
          let callee : Callee = record { minimum = offer.min_se; preference = interval } in
          let least = within.least in
          (callee, record { minimum_least = least; preference_least = omega (arith, h.0) }, ap Some (taken offer callee within.between within.between ∙ ap Ok (omega (arith, h.0, h.1))))

  -- the callee can always refuse: by a minimum one above R
  pub refuses : (callee : Callee) × Permitted L callee × TurnsBack offer callee
  refuses =
      let callee : Callee = record { minimum = offer.requested + 1; preference = offer.requested + 1 } in
      let least = within.least in
      let between = within.between in
      (callee, record { minimum_least = omega arith; preference_least = omega arith }, turned_back offer callee between (omega arith))

  -- "a caller with M = R leaves it only R or refusal 13", and no other caller does
  pub only_requested_iff : OnlyRequested L offer ↔ (offer.min_se ≡ offer.requested)
  only_requested_iff = (λ only. by only ((forces_first offer.min_se).1 (omega arith, within.between)), λ e callee p. left e callee (agrees_or_13 callee))
    where
      by : OnlyRequested L offer → Forces L first_answer offer offer.min_se → offer.min_se ≡ offer.requested
      by only f = told (only f.0 f.1)
        where
          told : (answer offer f.0 ≡ Ok offer.requested) ⊎ (number_in (answer offer f.0) ≡ 13) → offer.min_se ≡ offer.requested
          told (inl e) = let g = f.2 in cc
          told (inr e) =
              let g = f.2 in
              let a : answer offer f.0 ≡ Ok offer.min_se = cc in
              let z : ◌≡◌ {A = ℕ} 0 13 = cc (ap number_in a) in
              absurd (omega arith)

      left : offer.min_se ≡ offer.requested → (callee : Callee) → Agrees offer callee ⊎ TurnsBack offer callee → (answer offer callee ≡ Ok offer.requested) ⊎ (number_in (answer offer callee) ≡ 13)
      left e callee (inl a) = inl (a.1 ∙ ap Ok (omega (arith, a.2, a.3)))
      left e callee (inr f) = inr (ap number_in f)

  -- ---- the retry

  -- the retry forces exactly the intervals from R + 1 to the most
  pub forces_retry : (interval : ℕ) → Forces L retry_answer offer interval ↔ ((offer.requested < interval) × (interval ≤ L.max_expires))
  forces_retry interval = (λ f. above f.0 f.2, forced)
    where
      above : (callee : Callee) → answer_at L retry_answer offer callee ≡ Some (Ok interval) → (offer.requested < interval) × (interval ≤ L.max_expires)
      above callee e = by (ltb offer.requested callee.minimum) refl (ltb L.max_expires callee.minimum) refl
        where
          by : (t : Bool) → ltb offer.requested callee.minimum ≡ t → (u : Bool) → ltb L.max_expires callee.minimum ≡ u → (offer.requested < interval) × (interval ≤ L.max_expires)
          by false h u k =
              let f = no_retry L offer callee within.between (ltb-false _ _ h) in
              absurd (let z : ◌≡◌ {A = ℕ} 0 1 = cc in omega arith)
          by true h true k =
              let f = past_the_most L offer callee within.between (ltb-true _ _ h) (ltb-true _ _ k) in
              absurd (let z : ◌≡◌ {A = ℕ} 0 1 = cc in omega arith)
          by true h false k =
              let p = ltb-true offer.requested callee.minimum h in
              let q = ltb-false L.max_expires callee.minimum k in
              let f = retried L offer callee within.between p q in
              let same : callee.minimum ≡ interval = cc in
              (omega arith, omega arith)

      forced : (offer.requested < interval) × (interval ≤ L.max_expires) → Forces L retry_answer offer interval
      forced h =
          let callee : Callee = record { minimum = interval; preference = interval } in
          let least = within.least in
          let between = within.between in
          (callee, record { minimum_least = omega (arith, h.0); preference_least = omega (arith, h.0) }, retried L offer callee between h.0 h.1)

  -- none where R is the most
  pub none_at_most : offer.requested ≡ L.max_expires → (interval : ℕ) → Forces L retry_answer offer interval → ⊥
  none_at_most e interval f = let h = (forces_retry interval).0 f in omega arith

  -- ---- how the contest ends

  module _ (callee : Callee) where
    -- at the first answer, where the callee's minimum is at most R
    pub ends_first : callee.minimum ≤ offer.requested → (interval : ℕ) × (ending L offer callee ≡ Some interval) × (offer.min_se ≤ interval) × (interval ≤ offer.requested)
    ends_first h = let a = agrees callee h in (a.0, rw a.1, a.2, a.3)

    -- at the retry with the callee's minimum, where that is above R and at most the most
    pub ends_at_retry : offer.requested < callee.minimum → callee.minimum ≤ L.max_expires → ending L offer callee ≡ Some callee.minimum
    ends_at_retry h k = rw (retried L offer callee within.between h k, turned_back offer callee within.between h)

    -- "a minimum above 86,400 ends without an interval"
    pub ends_without : L.max_expires < callee.minimum → ending L offer callee ≡ None
    ends_without h =
        let above : offer.requested < callee.minimum = omega (arith, within.most) in
        rw (past_the_most L offer callee within.between above h, turned_back offer callee within.between above)
