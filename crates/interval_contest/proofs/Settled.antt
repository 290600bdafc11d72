-- Each offer is settled by the closed form, and by nothing else. Assumes nothing.
use Prim.Native.Nat.{ℕ, ◌≤◌, ◌<◌, ◌+◌}
use native.Mathlib.Omega.{arith}
use mathlib.Core.Path.{◌≡◌, refl, ap}
use mathlib.Core.Logic.{◌↔◌}
use mathlib.Core.Bool.{Bool, true, false, cond}
use lib.Dec.{ltb, eqb}
use borrow.Author.Tests.{ltb-true, ltb-false, eqb-true, eqb-false, le-ltb}
use Rattle.std.specs.Prelude.{Err, None, Ok, Option, Result, Some}
use Rattle.limits.specs.Limits.{LimitSet}
use Rattle.limits.specs.Outcome.{cause_if, or_else, refuse_by}
use Rattle.limits.specs.declared.Refusal.{Refusal}
use Rattle.limits.specs.declared.Refusal.TheVariants.{SessionExpiresTooSmall, SessionExpiresTooLarge}
use Rattle.interval_contest.specs.Contest.{Offer, Within, first_answer, retry_answer, Forces, Extent, ExtentOf, OnlyRequested, Says, offer_cause, Power, PowerOver, Settles}
use Rattle.interval_contest.specs.ClosedForm.{first_extent, retry_extent, power_of, closed_form}
use Rattle.interval_contest.proofs.WhoSets.{forces_first, forces_retry, only_requested_iff}

-- there is no cause exactly if the offer is within the bounds
pub no_cause : (L : LimitSet) (offer : Offer) → (offer_cause L offer ≡ None) ↔ Within L offer
no_cause L offer = (inside, λ w. rw (le-ltb offer.min_se L.min_expires w.least, le-ltb offer.requested offer.min_se w.between, le-ltb L.max_expires offer.requested w.most))
  where
    inside : offer_cause L offer ≡ None → Within L offer
    inside e = by (ltb offer.min_se L.min_expires) refl (ltb offer.requested offer.min_se) refl (ltb L.max_expires offer.requested) refl e
      where
        by : (t : Bool) → ltb offer.min_se L.min_expires ≡ t → (u : Bool) → ltb offer.requested offer.min_se ≡ u → (v : Bool) → ltb L.max_expires offer.requested ≡ v
            → or_else (cause_if t (SessionExpiresTooSmall L.min_expires)) (or_else (cause_if u (SessionExpiresTooSmall offer.min_se)) (cause_if v SessionExpiresTooLarge)) ≡ None → Within L offer
        by true p u q v r e = absurd (let z : ◌≡◌ {A = ℕ} 0 1 = cc in omega arith)
        by false p true q v r e = absurd (let z : ◌≡◌ {A = ℕ} 0 1 = cc in omega arith)
        by false p false q true r e = absurd (let z : ◌≡◌ {A = ℕ} 0 1 = cc in omega arith)
        by false p false q false r e = record { least = ltb-false _ _ p; between = ltb-false _ _ q; most = ltb-false _ _ r }

-- ---- the closed form settles

module _ (L : LimitSet) (offer : Offer) (within : Within L offer) where
  first_extent_lem : ExtentOf (Forces L first_answer offer) (first_extent offer)
  first_extent_lem =
      let b = within.between in
      ((forces_first L offer within offer.min_se).1 (omega arith, b), (forces_first L offer within offer.requested).1 (b, omega arith), λ n f. (forces_first L offer within n).0 f)

  retry_extent_lem : ExtentOf (Forces L retry_answer offer) (retry_extent L offer.requested)
  retry_extent_lem = by (ltb offer.requested L.max_expires) refl
    where
      above : (n : ℕ) → (offer.requested < n) × (n ≤ L.max_expires) → (offer.requested + 1 ≤ n) × (n ≤ L.max_expires)
      above n b = (omega (arith, b.0), b.1)

      past : (n : ℕ) → L.max_expires ≤ offer.requested → (offer.requested < n) × (n ≤ L.max_expires) → ⊥
      past n h b = omega (arith, b.0, b.1)

      by : (t : Bool) → ltb offer.requested L.max_expires ≡ t → ExtentOf (Forces L retry_answer offer) (cond t (Some (record { least = offer.requested + 1; most = L.max_expires })) None)
      by true h =
          let k = ltb-true offer.requested L.max_expires h in
          ((forces_retry L offer within (offer.requested + 1)).1 (omega arith, omega arith), (forces_retry L offer within L.max_expires).1 (k, omega arith), λ n f. above n ((forces_retry L offer within n).0 f))
      by false h = λ n f. past n (ltb-false offer.requested L.max_expires h) ((forces_retry L offer within n).0 f)

  only_said : Says (eqb offer.min_se offer.requested) (OnlyRequested L offer)
  only_said = by (eqb offer.min_se offer.requested) refl
    where
      by : (t : Bool) → eqb offer.min_se offer.requested ≡ t → Says t (OnlyRequested L offer)
      by true h = (only_requested_iff L offer within).1 (eqb-true _ _ h)
      by false h = λ only. eqb-false _ _ h ((only_requested_iff L offer within).0 only)

  pub power_over : PowerOver L offer (power_of L offer)
  power_over = record { first_is = first_extent_lem; retry_is = retry_extent_lem; only_is = only_said }

pub settled : (L : LimitSet) (offer : Offer) → Settles L offer (closed_form L offer)
settled L offer = by (offer_cause L offer) refl
  where
    by : (o : Option Refusal) → offer_cause L offer ≡ o → Settles L offer (refuse_by o (Ok (power_of L offer)))
    by (Some cause) e = e
    by None e = (e, power_over L offer ((no_cause L offer).0 e))

-- ---- and nothing else does

-- what has a property has one extent
pub extent_only : (Has : ℕ → Type 0) (a b : Option Extent) → ExtentOf Has a → ExtentOf Has b → a ≡ b
extent_only Has None None p q = refl
extent_only Has None (Some e) p q = absurd (p e.least q.0)
extent_only Has (Some e) None p q = absurd (q e.least p.0)
extent_only Has (Some d) (Some e) p q = ap Some (same d.least e.least d.most e.most (omega (arith, (p.2 e.least q.0).0, (q.2 d.least p.0).0)) (omega (arith, (p.2 e.most q.1).1, (q.2 d.most p.1).1)))
  where
    same : (a b m n : ℕ) → a ≡ b → m ≡ n → ◌≡◌ {A = Extent} (record { least = a; most = m }) (record { least = b; most = n })
    same a b m n e f = rw (e, f)

-- and one answer of yes and no
pub says_only : (It : Type 0) (a b : Bool) → Says a It → Says b It → a ≡ b
says_only It true true p q = refl
says_only It true false p q = absurd (q p)
says_only It false true p q = absurd (p q)
says_only It false false p q = refl

pub power_only : (L : LimitSet) (offer : Offer) (a b : Power) → PowerOver L offer a → PowerOver L offer b → a ≡ b
power_only L offer a b p q =
    same
    a.first
    b.first
    a.retry
    b.retry
    a.only_requested
    b.only_requested
    (extent_only (Forces L first_answer offer) a.first b.first p.first_is q.first_is)
    (extent_only (Forces L retry_answer offer) a.retry b.retry p.retry_is q.retry_is)
    (says_only (OnlyRequested L offer) a.only_requested b.only_requested p.only_is q.only_is)
  where
    same : (d e g h : Option Extent) (s t : Bool) → d ≡ e → g ≡ h → s ≡ t → ◌≡◌ {A = Power} (record { first = d; retry = g; only_requested = s }) (record { first = e; retry = h; only_requested = t })
    same d e g h s t p q r = rw (p, q, r)

pub settled_only : (L : LimitSet) (offer : Offer) (outcome : Result Power Refusal) → Settles L offer outcome → outcome ≡ closed_form L offer
settled_only L offer (Err cause) e = rw e
settled_only L offer (Ok power) (e, p) = rw e (ap Ok (power_only L offer power (power_of L offer) p (power_over L offer ((no_cause L offer).0 e))))
