-- Every trace whose steps keep to what one call may do to one record has demand 3's clauses on it. Assumes nothing.
use Prim.Native.Nat.{ℕ, suc, ◌+◌, ◌≤◌, zero-le}
use native.Mathlib.Omega.{arith}
use native.Mathlib.Nat.{le_refl}
use mathlib.Core.Path.{◌≡◌, refl, sym, ap, ap₂, subst, ◌∙◌}
use mathlib.Core.Logic.{◌≢◌}
use mathlib.Core.Bool.{Bool, true, false, cond, ◌&&◌, false≢true}
use mathlib.Core.List.{List, [], ◌∷◌}
use lib.ListN.{length}
use Rattle.std.proofs.lemmas.Bool.{and_parts}
use Rattle.std.specs.Prelude.{None, Option, Some}
use Rattle.text.specs.Text.{equal}
use Rattle.text.proofs.Sames.{equal_same, equal_is}
use Rattle.record.specs.Record.{State, early, confirmed, terminated, Record}
use Rattle.book.specs.Trace.{All, or_earlier, is_some, stage, same_routes, Course, Step, remote_by, last_put, calls_since, Moment, between, moments, Leads, Forward, route_changes, OnlyConfirming, Told}
use Rattle.book.proofs.BookLaws.{some_is, no_record}

routes_same : (a : List (List ℕ)) → same_routes a a ≡ true
unfolding same_routes
routes_same [] = refl
routes_same (x ∷ a) = rw (equal_same x) (routes_same a)

routes_are : (a b : List (List ℕ)) → same_routes a b ≡ true → a ≡ b
unfolding same_routes
routes_are [] [] e = refl
routes_are [] (y ∷ b) e = absurd (false≢true e)
routes_are (x ∷ a) [] e = absurd (false≢true e)
routes_are (x ∷ a) (y ∷ b) e = let k = and_parts (equal x y) (same_routes a b) e in ap₂ (λ (t : List ℕ) (l : List (List ℕ)). t ∷ l) (equal_is x y k.0) (routes_are a b k.1)

differ : (a b : List (List ℕ)) → same_routes a b ≡ false → a ≢ b
differ a b e q = absurd (false≢true (sym e ∙ subst (λ x. same_routes a x ≡ true) q (routes_same a)))

still_early : (s t : State) → stage s ≤ stage t → t ≡ early → s ≡ early
still_early early t h e = refl
still_early confirmed t h e = absurd (let z : stage t ≡ 1 = ap stage e in omega (arith, z, h))
still_early terminated t h e = absurd (let z : stage t ≡ 1 = ap stage e in omega (arith, z, h))

module _ (S : Course) where
  -- what a call may make of the record that it changes
  pub record Follows (i : S.Key) (c : S.Call) (was now : Record) : Type 0 where
    pub forward : stage was.numbers.state ≤ stage now.numbers.state
    pub routes : OnlyConfirming S (record { call = c; was = was; now = now })
    pub number : or_earlier (S.says i c) (Some was.numbers.remote) ≡ Some now.numbers.remote

  -- what becomes of one key's record by a taken call
  pub data Fate (c : S.Call) (i : S.Key) : Option Record → Option Record → Type 0 where
    stays : {o : Option Record} → S.says i c ≡ None → S.put_of i c ≡ None → Fate c i o o
    goes : {o : Option Record} → S.put_of i c ≡ None → Fate c i o None
    moves : {was now : Record} → Follows i c was now → S.put_of i c ≡ None → Fate c i (Some was) (Some now)
    anew : {o : Option Record} (p : Record) → S.says i c ≡ Some p.numbers.remote → S.put_of i c ≡ Some p → Fate c i o (Some p)

  -- of every step
  abbrev pub Fated : S.Key → Bool → S.Call → Option Record → Option Record → Type 0
  Fated i true c was now = Fate c i was now
  Fated i false c was now = was ≡ now

  -- the steps of a trace follow one another, from nothing held
  abbrev pub Course_of : S.Key → Option Record → List (Step S) → Type 0
  Course_of i held [] = held ≡ None
  Course_of i held (e ∷ es) = (e.now i ≡ held) × Fated i e.taken e.call (e.was i) (e.now i) × Course_of i (e.was i) es

  -- ---- the remote number

  abbrev Number : Option ℕ → Option Record → Type 0
  Number n o = (r : Record) → o ≡ Some r → n ≡ Some r.numbers.remote

  remote_fate : (c : S.Call) (i : S.Key) (old : Option ℕ) (o new : Option Record) → Number old o → Fate c i o new → Number (or_earlier (S.says i c) old) new
  remote_fate c i old o new ih (stays q p) r e = ap (λ x. or_earlier x old) q ∙ ih r e
  remote_fate c i old o new ih (goes p) r e = no_record e
  remote_fate c i old o new ih (moves {was} {now} l p) r e = ap (or_earlier (S.says i c)) (ih was refl) ∙ (l.number ∙ ap (λ (y : Record). Some y.numbers.remote) (some_is e))
  remote_fate c i old o new ih (anew x q p) r e = ap (λ y. or_earlier y old) q ∙ ap (λ (y : Record). Some y.numbers.remote) (some_is e)

  remote_step : (c : S.Call) (i : S.Key) (t : Bool) (old : Option ℕ) (o new : Option Record) → Number old o → Fated i t c o new → Number (cond t (or_earlier (S.says i c) old) old) new
  remote_step c i true old o new ih f = remote_fate c i old o new ih f
  remote_step c i false old o new ih f = subst (Number old) f ih

  remote_told : (i : S.Key) (held : Option Record) (es : List (Step S)) → Course_of i held es → Number (remote_by S i es) held
  unfolding remote_by
  remote_told i held [] w = λ r e. no_record (sym w ∙ e)
  remote_told i held (e ∷ es) w = subst (Number (remote_by S i (e ∷ es))) w.0 (remote_step e.call i e.taken (remote_by S i es) (e.was i) (e.now i) (remote_told i (e.was i) es w.2) w.1)

  -- ---- states and routes

  record Tale (o : Option Record) (ms : List (Moment S)) : Type 0 where
    forward : All (Forward S) ms
    confirming : All (OnlyConfirming S) ms
    once : route_changes S ms ≤ 1
    fresh : (r : Record) → o ≡ Some r → r.numbers.state ≡ early → route_changes S ms ≡ 0

  no_tale : (o : Option Record) → Tale o []
  no_tale o = record { forward = tt; confirming = tt; once = zero-le; fresh = λ r e s. refl }

  same_tale : (c : S.Call) (o : Option Record) (ms : List (Moment S)) → Tale o ms → Tale o (between S c o o ms)
  same_tale c None ms t = no_tale None
  same_tale c (Some w) ms t =
      let z : ◌≡◌ {A = ℕ} (cond (same_routes w.routes w.routes) 0 1) 0 = ap (λ p. cond p 0 1) (routes_same w.routes) in
      record {
        forward = (le_refl _, t.forward);
        confirming = (λ ne. absurd (ne refl), t.confirming);
        once = omega (arith, z, t.once);
        fresh = λ r e s. omega (arith, z, t.fresh r e s);
      }

  gone_tale : (c : S.Call) (o : Option Record) (ms : List (Moment S)) → Tale None (between S c o None ms)
  gone_tale c None ms = no_tale None
  gone_tale c (Some w) ms = no_tale None

  move_tale : (i : S.Key) (c : S.Call) (was now : Record) (ms : List (Moment S)) → Follows i c was now → Tale (Some was) ms → Tale (Some now) (between S c (Some was) (Some now) ms)
  move_tale i c was now ms l t = record {
    forward = (l.forward, t.forward);
    confirming = (l.routes, t.confirming);
    once = once_is (same_routes was.routes now.routes) refl;
    fresh = λ r e s. fresh_is (ap (λ (y : Record). y.numbers.state) (some_is e) ∙ s) (same_routes was.routes now.routes) refl;
  }
    where
      once_is : (d : Bool) → same_routes was.routes now.routes ≡ d → cond d 0 1 + route_changes S ms ≤ 1
      once_is true q = omega (arith, t.once)
      once_is false q = omega (arith, t.fresh was refl (l.routes (differ was.routes now.routes q)).from_early)

      fresh_is : now.numbers.state ≡ early → (d : Bool) → same_routes was.routes now.routes ≡ d → cond d 0 1 + route_changes S ms ≡ 0
      fresh_is s true q = omega (arith, t.fresh was refl (still_early was.numbers.state now.numbers.state l.forward s))
      fresh_is s false q =
          let k : now.numbers.state ≡ confirmed = (l.routes (differ was.routes now.routes q)).to_confirmed in
          absurd (let z : stage early ≡ stage confirmed = ap stage (sym s ∙ k) in omega (arith, z))

  pass : (c : S.Call) (i : S.Key) (X : List (Moment S) → Type 0) (ms : List (Moment S)) → S.put_of i c ≡ None → X ms → X (cond (is_some (S.put_of i c)) [] ms)
  pass c i X ms p x = subst (λ o. X (cond (is_some o) [] ms)) (sym p) x

  cut : (c : S.Call) (i : S.Key) (X : List (Moment S) → Type 0) (ms : List (Moment S)) (r : Record) → S.put_of i c ≡ Some r → X [] → X (cond (is_some (S.put_of i c)) [] ms)
  cut c i X ms r p x = subst (λ o. X (cond (is_some o) [] ms)) (sym p) x

  tale_fate : (c : S.Call) (i : S.Key) (ms : List (Moment S)) (o new : Option Record) → Tale o ms → Fate c i o new → Tale new (cond (is_some (S.put_of i c)) [] (between S c o new ms))
  tale_fate c i ms o new t (stays {o = x} q p) = pass c i (Tale x) (between S c x x ms) p (same_tale c x ms t)
  tale_fate c i ms o new t (goes {o = x} p) = pass c i (Tale None) (between S c x None ms) p (gone_tale c x ms)
  tale_fate c i ms o new t (moves {was} {now} l p) = pass c i (Tale (Some now)) (between S c (Some was) (Some now) ms) p (move_tale i c was now ms l t)
  tale_fate c i ms o new t (anew {o = y} x q p) = cut c i (Tale (Some x)) (between S c y (Some x) ms) x p (no_tale (Some x))

  tale_step : (c : S.Call) (i : S.Key) (t : Bool) (ms : List (Moment S)) (o new : Option Record) → Tale o ms → Fated i t c o new → Tale new (cond (t && is_some (S.put_of i c)) [] (between S c o new ms))
  tale_step c i true ms o new t f = tale_fate c i ms o new t f
  tale_step c i false ms o new t f = subst (λ x. Tale x (between S c o x ms)) f (same_tale c o ms t)

  tale : (i : S.Key) (held : Option Record) (es : List (Step S)) → Course_of i held es → Tale held (moments S i es)
  unfolding moments
  tale i held [] w = no_tale held
  tale i held (e ∷ es) w = subst (λ o. Tale o (moments S i (e ∷ es))) w.0 (tale_step e.call i e.taken (moments S i es) (e.was i) (e.now i) (tale i (e.was i) es w.2) w.1)

  -- ---- the story is whole

  record Whole (origin : Option Record) (r : Record) (ms : List (Moment S)) (n : ℕ) : Type 0 where
    from : Record
    is : origin ≡ Some from
    leads : Leads S from ms r
    every : length ms ≡ n

  abbrev SoFar : Option Record → List (Moment S) → ℕ → Option Record → Type 0
  SoFar origin ms n o = (r : Record) → o ≡ Some r → Whole origin r ms n

  longer : (c : S.Call) (origin : Option Record) (was now : Record) (ms : List (Moment S)) (n : ℕ) → Whole origin was ms n → Whole origin now (record { call = c; was = was; now = now } ∷ ms) (suc n)
  longer c origin was now ms n s = record { from = s.from; is = s.is; leads = (refl, s.leads); every = ap suc s.every }

  whole_same : (c : S.Call) (origin : Option Record) (ms : List (Moment S)) (n : ℕ) (o : Option Record) → SoFar origin ms n o → SoFar origin (between S c o o ms) (suc n) o
  whole_same c origin ms n None ih r e = no_record e
  whole_same c origin ms n (Some w) ih r e = subst (λ y. Whole origin y (between S c (Some w) (Some w) ms) (suc n)) (some_is e) (longer c origin w w ms n (ih w refl))

  abbrev Next : S.Call → S.Key → Option Record → List (Moment S) → ℕ → Option Record → Option Record → Option Record → Type 0
  Next c i origin ms n o new p = SoFar (or_earlier p origin) (cond (is_some p) [] (between S c o new ms)) (cond (is_some p) 0 (suc n)) new

  whole_fate : (c : S.Call) (i : S.Key) (origin : Option Record) (ms : List (Moment S)) (n : ℕ) (o new : Option Record) → SoFar origin ms n o → Fate c i o new → Next c i origin ms n o new (S.put_of i c)
  whole_fate c i origin ms n o new ih (stays {o = x} q p) = subst (Next c i origin ms n x x) (sym p) (whole_same c origin ms n x ih)
  whole_fate c i origin ms n o new ih (goes p) = λ r e. no_record e
  whole_fate c i origin ms n o new ih (moves {was} {now} l p) =
      subst (Next c i origin ms n (Some was) (Some now)) (sym p) (λ r e. subst (λ y. Whole origin y (between S c (Some was) (Some now) ms) (suc n)) (some_is e) (longer c origin was now ms n (ih was refl)))
  whole_fate c i origin ms n o new ih (anew {o = y} x q p) = subst (Next c i origin ms n y (Some x)) (sym p) (λ r e. record { from = x; is = refl; leads = some_is e; every = refl })

  whole_step : (c : S.Call) (i : S.Key) (t : Bool) (origin : Option Record) (ms : List (Moment S)) (n : ℕ) (o new : Option Record) → SoFar origin ms n o → Fated i t c o new
      → SoFar (cond t (or_earlier (S.put_of i c) origin) origin) (cond (t && is_some (S.put_of i c)) [] (between S c o new ms)) (cond (t && is_some (S.put_of i c)) 0 (suc n)) new
  whole_step c i true origin ms n o new ih f = whole_fate c i origin ms n o new ih f
  whole_step c i false origin ms n o new ih f = subst (λ x. SoFar origin (between S c o x ms) (suc n) x) f (whole_same c origin ms n o ih)

  whole : (i : S.Key) (held : Option Record) (es : List (Step S)) → Course_of i held es → SoFar (last_put S i es) (moments S i es) (calls_since S i es) held
  unfolding last_put moments calls_since
  whole i held [] w = λ r e. no_record (sym w ∙ e)
  whole i held (e ∷ es) w =
      subst (SoFar (last_put S i (e ∷ es)) (moments S i (e ∷ es)) (calls_since S i (e ∷ es))) w.0
      (whole_step e.call i e.taken (last_put S i es) (moments S i es) (calls_since S i es) (e.was i) (e.now i) (whole i (e.was i) es w.2) w.1)

  pub told : (i : S.Key) (held : Option Record) (es : List (Step S)) → Course_of i held es → Told S i held es
  told i held es w =
      let t = tale i held es w in
      record {
        remote_rule = remote_told i held es w;
        story = λ r e. let s = whole i held es w r e in record { origin = s.from; was_put = s.is; leads = s.leads; every_call = s.every };
        routes_once = t.once;
        routes_confirming = t.confirming;
        forward = t.forward;
      }
