-- Document 02, request 10, about the C functions: one claim about every list of calls of them on a run of verdicts, from an empty one, each lent the first bytes of the memory, as
-- many as it says, and the used length, as the last left them. Of a call nothing is known but the contract that its function is proved to keep: `Post` of a function
-- is what the toolchain makes of its `ensures`. Assumes nothing.
use Prim.Native.Nat.{ℕ}
use native.Mathlib.Omega.{arith}
use mathlib.Core.Path.{◌≡◌, refl, ap, subst, ◌∙◌}
use mathlib.Core.List.{List, [], ◌∷◌, ◌++◌}
use lib.ListN.{length, take, drop, length-take}
use Rattle.std.specs.Prelude.{Err, None, Ok, Option, Result, Some}
use Rattle.std.specs.Option.{option_map}
use Rattle.limits.specs.Outcome.{number_in}
use Rattle.limits.specs.declared.Refusal.{Refusal}
use Rattle.output.specs.Output.{written_from}
use Rattle.ordered_store.specs.History.{Seen, EachShows}
use Rattle.worst_minute.specs.Minute.{Verdict, Minute}
use Rattle.worst_minute.specs.Calls.{added}
use Rattle.worst_minute.specs.History.{Call, add, ask, answers, World, Left, used_after, nothing_asked, lent_to, on_bytes, lending, world, run_answers, Typed, EachSent, Follows}
use Rattle.worst_minute.proofs.HistoryLaws.{stands, follows}
use Rattle.c_answers.specs.Given.{value_after}
use Rattle.c_minute_answers.specs.Given.{MinuteNumbers, minute_after}
use Rattle.sip_dialog.proofs.Called.{AddVerdictCall, WorstMinuteCall}

-- ---- one call

-- what a function is lent beside the run: the three numbers for an answer, or none
abbrev pub Lent : Type 0
Lent = Option MinuteNumbers

-- what an answer leaves of it
abbrev pub lent_after : Result (Option Minute) Refusal → Lent → Lent
lent_after a l = option_map (minute_after a) l

abbrev pub numbers : (refusals found start : ℕ) → MinuteNumbers
numbers refusals found start = record { refusals = refusals; found = found; start = start }

-- A C function was called: with these bytes lent for the run and this used length it was entered, with those it returned, and this number; beside the run it was
-- lent this, and left that.
pub data Served : Call → (bytes : List ℕ) (used : ℕ) (after : List ℕ) (left number : ℕ) (given kept : Lent) → Type 0 where
  by_add : (k : AddVerdictCall) → Served (add (length k.run.now) (record { time = k.time; number = k.number })) k.run.now k.used.now k.run'.now k.used'.now k.returned None None
  by_ask : (k : WorstMinuteCall) → Served (ask (length k.run.now)) k.run.now k.used k.run.now k.used k.returned (Some (numbers k.refusals.now k.found.now k.start.now)) (Some (numbers k.refusals'.now k.found'.now k.start'.now))

-- what is handed over of an `add_verdict` is what it comes to
number_same : (o : Result (List ℕ) Refusal) → number_in (written_from o) ≡ number_in (nothing_asked o)
number_same (Err cause) = refl
number_same (Ok s) = refl

used_same : (o : Result (List ℕ) Refusal) (used : ℕ) → value_after (written_from o) used ≡ used_after o used
used_same (Err cause) used = refl
used_same (Ok s) used = refl

-- each contract says what the definitions leave of the call, lent all of the bytes
pub record Keeps (c : Call) (bytes : List ℕ) (used : ℕ) (after : List ℕ) (left number : ℕ) (given kept : Lent) : Type 0 where
  pub bytes_are : after ≡ (on_bytes c bytes used).bytes
  pub used_is : left ≡ (on_bytes c bytes used).used
  pub number_is : number ≡ number_in (on_bytes c bytes used).answer
  pub values_are : kept ≡ lent_after (on_bytes c bytes used).answer given
  pub lends_all : lent_to c ≡ length bytes
  pub typed : Typed c

contracts : {c : Call} {bytes : List ℕ} {used : ℕ} {after : List ℕ} {left number : ℕ} {given kept : Lent} → Served c bytes used after left number given kept → Keeps c bytes used after left number given kept
contracts (by_add k) =
    let v : Verdict = record { time = k.time; number = k.number } in
    let o : Result (List ℕ) Refusal = added v k.run.now k.used.now in
    record { bytes_are = k.kept.1.0; used_is = k.kept.0.left_is ∙ used_same o k.used.now; number_is = k.kept.0.number_is ∙ number_same o; values_are = refl; lends_all = refl; typed = k.kept.1.1 }
contracts (by_ask k) = record { bytes_are = refl; used_is = refl; number_is = k.kept.number_is; values_are = ap Some k.kept.left_is; lends_all = refl; typed = tt }

-- ---- every list of calls

-- such calls from an empty run in a memory m, the latest first: the calls, the memory and the used length that they leave, and what their caller saw of each
pub data Made (m : List ℕ) : List Call → World → List (Seen Lent) → Type 0 where
  none_made : Made m [] (record { memory = m; used = 0 }) []
  one_more : {cs : List Call} {w : World} {ss : List (Seen Lent)} → Made m cs w ss
      → (c : Call) (after : List ℕ) (left number : ℕ) (lent kept : Lent) → Served c (take (lent_to c) w.memory) w.used after left number lent kept
      → Made m (c ∷ cs) (record { memory = after ++ drop (lent_to c) w.memory; used = left }) (record { number = number; lent = lent; left = kept } ∷ ss)

-- the contracts alone fix the memory, the used length, the numbers returned and the values beside them
record Fixed (m : List ℕ) (cs : List Call) (w : World) (ss : List (Seen Lent)) : Type 0 where
  world_is : w ≡ world m cs
  shown : EachShows lent_after (run_answers m cs) ss
  sent : EachSent m cs

fixed : (m : List ℕ) {cs : List Call} {w : World} {ss : List (Seen Lent)} → Made m cs w ss → Fixed m cs w ss
unfolding world run_answers
fixed m none_made = record { world_is = refl; shown = tt; sent = tt }
fixed m (one_more {cs} {w} {ss} d c after left number lent kept s) = go (fixed m d)
  where
    three : {X Y Z W : Type 0} (f : X → Y → Z → W) {x y : X} {u v : Y} {s t : Z} → x ≡ y → u ≡ v → s ≡ t → f x u s ≡ f y v t
    three f a b c = λ i. f (a i) (b i) (c i)

    go : Fixed m cs w ss → Fixed m (c ∷ cs) (record { memory = after ++ drop (lent_to c) w.memory; used = left }) (record { number = number; lent = lent; left = kept } ∷ ss)
    go f =
        let k = contracts s in
        let q : lending c w ≡ lending c (world m cs) = ap (lending c) f.world_is in
        let long : length w.memory ≡ length m = ap (λ (x : World). length x.memory) f.world_is ∙ (stands m cs f.sent).room in
        record {
          world_is = three (λ x y (z : World). record { memory = x ++ drop (lent_to c) z.memory; used = y }) (k.bytes_are ∙ ap (λ (y : Left). y.bytes) q) (k.used_is ∙ ap (λ (y : Left). y.used) q) f.world_is;
          shown = (record { number_is = k.number_is ∙ ap (λ (y : Left). number_in y.answer) q; values_are = k.values_are ∙ ap (λ (y : Left). lent_after y.answer lent) q }, f.shown);
          sent = ((omega (arith, k.lends_all, length-take (lent_to c) w.memory, long), k.typed), f.sent);
        }

-- After every list of calls of the C functions what the run holds is what counts of the verdicts that were given, their times as taken and cut to the last 4,096
-- (`Follows`), told only the calls' arguments; and every call returned the number, and left the values, of a fresh count over it.
pub verdicts_of_calls : (m : List ℕ) {cs : List Call} {w : World} {ss : List (Seen Lent)} → Made m cs w ss
    → Follows m cs × ((w ≡ world m cs) × EachShows lent_after (answers cs) ss)
verdicts_of_calls m {cs} {w} {ss} d =
    let f = fixed m d in
    let k = follows m cs f.sent in
    (k, (f.world_is, subst (λ l. EachShows lent_after l ss) k.answers_are f.shown))
