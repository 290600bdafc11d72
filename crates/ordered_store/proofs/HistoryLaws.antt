-- Every list of calls from an empty store: the used bytes are those of the content that the definitions give, and every answer is the one over it.
-- Owed by each store: an exact form whose entries have a byte, and calls that keep good, ascending entries so. Assumes nothing.
use Prim.Native.Nat.{ℕ, ◌≤◌, ◌<◌, zero-le}
use native.Mathlib.Omega.{arith}
use native.Mathlib.Nat.{le_trans}
use mathlib.Core.Path.{◌≡◌, refl, sym, ap, ap₂, subst, ◌∙◌}
use mathlib.Core.Bool.{Bool, true, false}
use mathlib.Core.List.{List, [], ◌∷◌, ◌++◌, append_assoc}
use lib.ListN.{length, take, drop, length-append, length-take, length-drop, take-append-drop}
use lib.Seq.{take-append_seam, take-take, length-take-le}
use lib.Dec.{ltb}
use borrow.Author.Tests.{ltb-false, le-ltb}
use Rattle.std.specs.Prelude.{Err, None, Ok, Option, Result, Some}
use Rattle.limits.specs.Outcome.{refuse_by, refuse_if, and_then, or_refuse, number_in}
use Rattle.limits.specs.declared.Refusal.{Refusal}
use Rattle.limits.specs.declared.Refusal.TheVariants.{BadStore, NoRoom}
use Rattle.edit.specs.Edit.{over}
use Rattle.codec.specs.Codec.{Codec, write_all}
use Rattle.codec.proofs.CodecLaws.{Exact, GoodAll}
use Rattle.ordered_store.specs.Entries.{Key, encode_entries, decode_entries, ascending}
use Rattle.ordered_store.specs.Run.{Decided, Left, fitting, leave, verdict, run}
use Rattle.ordered_store.specs.History.{Calls, Call, World, decide, after, answer_of, content, content_answers, EachSent, EachTyped, lending, world, store_answers, Follows, Seen, Shows, EachShows, Ran, start, called, Serving, Made, none_made, one_more, KeepsContracts}
use Rattle.ordered_store.proofs.BytesLaws.{decode_encode}

pub each_typed : {A B : Type 0} (C : Calls A B) (m : List ℕ) (cs : List (Call C.Action)) → EachSent C m cs → EachTyped C cs
each_typed C m [] s = tt
each_typed C m (c ∷ cs) s = (s.0.typed, each_typed C m cs s.1)

-- good entries in ascending order
abbrev pub Sound : {A : Type 0} → (A → Key) → (A → Type 0) → List A → Type 0
Sound key_of Good es = GoodAll Good es × (ascending key_of es ≡ true)

-- what a store owes: an action whose numbers are of their types and whose arguments are taken keeps good, ascending entries so
abbrev pub Keeps : {A B : Type 0} → (A → Key) → (A → Type 0) → Calls A B → Type 0
Keeps {A} {B} key_of Good C = (a : C.Action) (es : List A) (d : Decided A B) → C.Typed a → C.cause a ≡ None → C.judge a es ≡ Ok d → Sound key_of Good es → Sound key_of Good d.entries

module _ {A B : Type 0} (form : Codec A) (key_of : A → Key) (C : Calls A B) where
  -- what an accepted call decided
  pub record Accepted (c : Call C.Action) (es : List A) (d : Decided A B) : Type 0 where
    pub clear : C.cause c.action ≡ None
    pub judged : C.judge c.action es ≡ Ok d
    pub fits : length (encode_entries form d.entries) ≤ c.lent

  pub accepted : (c : Call C.Action) (es : List A) (d : Decided A B) → decide form key_of C c es ≡ Ok d → Accepted c es d
  unfolding decide
  accepted c es d e = by (C.cause c.action) refl (ltb c.lent (length (encode_entries form es))) (C.judge c.action es) refl e
    where
      last : C.cause c.action ≡ None → (y : Decided A B) → C.judge c.action es ≡ Ok y → (t : Bool) → ltb c.lent (length (encode_entries form y.entries)) ≡ t
          → refuse_if t NoRoom (Ok y) ≡ Ok d → Accepted c es d
      last q y j true t e = absurd (let z : ◌≡◌ {A = ℕ} 0 1 = cc in omega arith)
      last q y j false t e =
          let k : y ≡ d = cc in
          subst (Accepted c es) k (record { clear = q; judged = j; fits = ltb-false c.lent (length (encode_entries form y.entries)) t })

      by : (o : Option Refusal) → C.cause c.action ≡ o → (t : Bool) (j : Result (Decided A B) Refusal) → C.judge c.action es ≡ j
          → refuse_by o (refuse_if t BadStore (and_then j (λ y. fitting form c.lent y))) ≡ Ok d → Accepted c es d
      by (Some cause) q t j p e = absurd (let z : ◌≡◌ {A = ℕ} 0 1 = cc in omega arith)
      by None q true j p e = absurd (let z : ◌≡◌ {A = ℕ} 0 1 = cc in omega arith)
      by None q false (Err cause) p e = absurd (let z : ◌≡◌ {A = ℕ} 0 1 = cc in omega arith)
      by None q false (Ok y) p e = last q y p (ltb c.lent (length (encode_entries form y.entries))) refl e

  -- a call whose arguments are taken, with room for the entries before and after it, answers what it decided
  pub settled : (c : Call C.Action) (es : List A) (d : Decided A B) → C.cause c.action ≡ None → length (encode_entries form es) ≤ c.lent → C.judge c.action es ≡ Ok d → length (encode_entries form d.entries) ≤ c.lent
      → answer_of form key_of C (decide form key_of C c es) ≡ d.answer
  unfolding decide
  settled c es d q h j f =
      ap (answer_of form key_of C)
      (ap (λ o. refuse_by o (refuse_if (ltb c.lent (length (encode_entries form es))) BadStore (and_then (C.judge c.action es) (λ y. fitting form c.lent y)))) q
      ∙ ap (λ t. refuse_if t BadStore (and_then (C.judge c.action es) (λ y. fitting form c.lent y))) (le-ltb c.lent (length (encode_entries form es)) h)
      ∙ ap (λ v. and_then v (λ y. fitting form c.lent y)) j
      ∙ ap (λ t. refuse_if t NoRoom (Ok d)) (le-ltb c.lent (length (encode_entries form d.entries)) f))

  -- ---- one call

  module _ (c : Call C.Action) (es : List A) (bytes : List ℕ) (used : ℕ) (len : length bytes ≡ c.lent) (is : used ≡ length (encode_entries form es))
      (reads : length (encode_entries form es) ≤ c.lent → decode_entries form key_of (take used bytes) ≡ Some es) where
    abbrev on_entries : List A → Result (Decided A B) Refusal
    on_entries l = and_then (C.judge c.action l) (λ d. fitting form (length bytes) d)

    body : refuse_if (ltb (length bytes) used) BadStore (and_then (or_refuse BadStore (decode_entries form key_of (take used bytes))) on_entries)
        ≡ refuse_if (ltb c.lent (length (encode_entries form es))) BadStore (and_then (C.judge c.action es) (λ d. fitting form c.lent d))
    body =
        ap₂ (λ n u. refuse_if (ltb n u) BadStore (and_then (or_refuse BadStore (decode_entries form key_of (take used bytes))) on_entries)) len is
        ∙ by (ltb c.lent (length (encode_entries form es))) refl
      where
        by : (t : Bool) → ltb c.lent (length (encode_entries form es)) ≡ t
            → refuse_if t BadStore (and_then (or_refuse BadStore (decode_entries form key_of (take used bytes))) on_entries) ≡ refuse_if t BadStore (and_then (C.judge c.action es) (λ d. fitting form c.lent d))
        by true e = refl
        by false e =
            ap (λ o. and_then (or_refuse BadStore o) on_entries) (reads (ltb-false c.lent (length (encode_entries form es)) e))
            ∙ ap (λ n. and_then (C.judge c.action es) (λ d. fitting form n d)) len

    -- the store's verdict is the one over the content
    verdict_is : verdict form key_of (C.cause c.action) (C.judge c.action) bytes used ≡ decide form key_of C c es
    unfolding verdict decide
    verdict_is = ap (refuse_by (C.cause c.action)) body

  -- ---- the store between two calls

  pub record Stands (m : List ℕ) (w : World) (es : List A) : Type 0 where
    pub room : length w.memory ≡ length m
    pub used_is : w.used ≡ length (encode_entries form es)
    pub within : w.used ≤ length m
    pub front : take w.used w.memory ≡ encode_entries form es

  module _ (Good : A → Type 0) (x : Exact form Good) (filled : (a : A) → 0 < length (form.write a)) where
    module _ (m : List ℕ) (c : Call C.Action) (w : World) (es : List A) (g : Sound key_of Good es) (f : Stands m w es) (fits : c.lent ≤ length m) where
      abbrev lent_bytes : List ℕ
      lent_bytes = take c.lent w.memory

      lent_length : length lent_bytes ≡ c.lent
      lent_length = length-take-le c.lent w.memory (omega (arith, f.room, fits))

      reads_back : length (encode_entries form es) ≤ c.lent → decode_entries form key_of (take w.used lent_bytes) ≡ Some es
      reads_back h =
          ap (decode_entries form key_of) (take-take w.used c.lent w.memory (omega (arith, f.used_is, h)) ∙ f.front)
          ∙ decode_encode form key_of Good x filled es g.0 g.1

      run_is : lending form key_of C c w ≡ leave form lent_bytes w.used (decide form key_of C c es)
      unfolding run
      run_is = ap (leave form lent_bytes w.used) (verdict_is c es lent_bytes w.used lent_length f.used_is reads_back)

      -- the store answers what the definitions answer over the content
      pub same_answer : (lending form key_of C c w).answer ≡ answer_of form key_of C (decide form key_of C c es)
      same_answer = ap (λ (l : Left B). l.answer) run_is ∙ by (decide form key_of C c es)
        where
          by : (v : Result (Decided A B) Refusal) → (leave form lent_bytes w.used v).answer ≡ answer_of form key_of C v
          by (Err cause) = refl
          by (Ok d) = refl

      abbrev next_by : Left B → World
      next_by l = record { memory = l.bytes ++ drop c.lent w.memory; used = l.used }

      pub stands_next : Stands m (next_by (lending form key_of C c w)) (after form key_of C (decide form key_of C c es) es)
      stands_next = subst (λ (l : Left B). Stands m (next_by l) (after form key_of C (decide form key_of C c es) es)) (sym run_is) (by (decide form key_of C c es) refl)
        where
          by : (v : Result (Decided A B) Refusal) → decide form key_of C c es ≡ v → Stands m (next_by (leave form lent_bytes w.used v)) (after form key_of C v es)
          by (Err cause) e =
              let same : lent_bytes ++ drop c.lent w.memory ≡ w.memory = take-append-drop c.lent w.memory in
              record { room = ap length same ∙ f.room; used_is = f.used_is; within = f.within; front = ap (take w.used) same ∙ f.front }
          by (Ok d) e =
              let new : List ℕ = encode_entries form d.entries in
              let small : length new ≤ c.lent = (accepted c es d e).fits in
              let split : over new lent_bytes ++ drop c.lent w.memory ≡ new ++ (drop (length new) lent_bytes ++ drop c.lent w.memory) = append_assoc new (drop (length new) lent_bytes) (drop c.lent w.memory) in
              record {
                room = ap length split ∙ simp (length-append, length-drop) (omega (arith, lent_length, f.room, small, fits));
                used_is = refl;
                within = le_trans small fits;
                front = ap (take (length new)) split ∙ take-append_seam new (drop (length new) lent_bytes ++ drop c.lent w.memory);
              }

    -- ---- every list of calls

    module _ (keeps : Keeps key_of Good C) where
      -- the content is good and ascends
      pub sound : (cs : List (Call C.Action)) → EachTyped C cs → Sound key_of Good (content form key_of C cs)
      unfolding content
      sound [] s = (tt, refl)
      sound (c ∷ cs) s = by (decide form key_of C c (content form key_of C cs)) refl (sound cs s.1)
        where
          by : (v : Result (Decided A B) Refusal) → decide form key_of C c (content form key_of C cs) ≡ v → Sound key_of Good (content form key_of C cs) → Sound key_of Good (after form key_of C v (content form key_of C cs))
          by (Err cause) e g = g
          by (Ok d) e g = let k = accepted c (content form key_of C cs) d e in keeps c.action (content form key_of C cs) d s.0 k.clear k.judged g

      module _ (m : List ℕ) where
        pub stands : (cs : List (Call C.Action)) → EachSent C m cs → Stands m (world form key_of C m cs) (content form key_of C cs)
        unfolding world content write_all
        stands [] s = record { room = refl; used_is = refl; within = zero-le; front = refl }
        stands (c ∷ cs) s = stands_next m c (world form key_of C m cs) (content form key_of C cs) (sound cs (each_typed C m cs s.1)) (stands cs s.1) s.0.lends

        same_answers : (cs : List (Call C.Action)) → EachSent C m cs → store_answers form key_of C m cs ≡ content_answers form key_of C cs
        unfolding store_answers content_answers
        same_answers [] s = refl
        same_answers (c ∷ cs) s =
            ap₂ (λ (a : Result B Refusal) (l : List (Result B Refusal)). a ∷ l)
            (same_answer m c (world form key_of C m cs) (content form key_of C cs) (sound cs (each_typed C m cs s.1)) (stands cs s.1) s.0.lends) (same_answers cs s.1)

        -- the store follows the content, after every list of calls
        pub follows : (cs : List (Call C.Action)) → EachSent C m cs → Follows form key_of C m cs
        follows cs s =
            let k = stands cs s in
            let g = sound cs (each_typed C m cs s) in
            record {
              holds = k.front;
              reads = ap (decode_entries form key_of) k.front ∙ decode_encode form key_of Good x filled (content form key_of C cs) g.0 g.1;
              answers = same_answers cs s;
            }

-- ---- the contracts alone fix the memory, the used length, the numbers returned and the values beside them

module _ {A B D : Type 0} (form : Codec A) (key_of : A → Key) (C : Calls A B) (kept : Result B Refusal → D → D) where
  pub ran_is : (m : List ℕ) {cs : List (Call C.Action)} {w : World} {ss : List (Seen D)} → Ran form key_of C kept m cs w ss
      → (w ≡ world form key_of C m cs) × EachShows kept (store_answers form key_of C m cs) ss
  unfolding world store_answers
  ran_is m start = (refl, tt)
  ran_is m (called {cs} {w} {ss} r c bytes used number lent left l v) = go (ran_is m r)
    where
      three : {X Y Z W : Type 0} (f : X → Y → Z → W) {x y : X} {u v : Y} {s t : Z} → x ≡ y → u ≡ v → s ≡ t → f x u s ≡ f y v t
      three f a b c = λ i. f (a i) (b i) (c i)

      go : (w ≡ world form key_of C m cs) × EachShows kept (store_answers form key_of C m cs) ss
          → (◌≡◌ {A = World} (record { memory = bytes ++ drop c.lent w.memory; used = used }) (record { memory = (lending form key_of C c (world form key_of C m cs)).bytes ++ drop c.lent (world form key_of C m cs).memory; used = (lending form key_of C c (world form key_of C m cs)).used }))
          × (Shows kept (lending form key_of C c (world form key_of C m cs)).answer (record { number = number; lent = lent; left = left }) × EachShows kept (store_answers form key_of C m cs) ss)
      go p =
          let q : lending form key_of C c w ≡ lending form key_of C c (world form key_of C m cs) = ap (lending form key_of C c) p.0 in (
            three (λ x y (z : World). record { memory = x ++ drop c.lent z.memory; used = y }) (l.bytes_are ∙ ap (λ (y : Left B). y.bytes) q) (l.used_is ∙ ap (λ (y : Left B). y.used) q) p.0,
            (record { number_is = l.number_is ∙ ap (λ (y : Left B). number_in y.answer) q; values_are = v ∙ ap (λ (y : Left B). kept y.answer lent) q }, p.1),
          )

  module _ (Good : A → Type 0) (x : Exact form Good) (filled : (a : A) → 0 < length (form.write a)) (keeps : Keeps key_of Good C) (m : List ℕ) where
    -- the calls leave the memory as long as it was
    pub memory_long : (cs : List (Call C.Action)) → EachSent C m cs → length (world form key_of C m cs).memory ≡ length m
    memory_long cs s = (stands form key_of C Good x filled keeps m cs s).room

    -- such calls follow the content; their memory and used length are those that `Follows` speaks of, and each gave the number and the values of the answer over the content
    pub follows_kept : {cs : List (Call C.Action)} {w : World} {ss : List (Seen D)} → Ran form key_of C kept m cs w ss → EachSent C m cs
        → Follows form key_of C m cs × ((w ≡ world form key_of C m cs) × EachShows kept (content_answers form key_of C cs) ss)
    follows_kept {cs} {w} {ss} r s =
        let f = follows form key_of C Good x filled keeps m cs s in
        let q = ran_is m r in
        (f, (q.0, subst (λ l. EachShows kept l ss) f.answers q.1))

    -- ---- calls of functions, of which nothing is known but that their contracts are kept

    module _ (Served : Serving C.Action D) (k : KeepsContracts form key_of C kept Served) where
      made_ran : {cs : List (Call C.Action)} {w : World} {ss : List (Seen D)} → Made C Served m cs w ss → Ran form key_of C kept m cs w ss
      made_ran none_made = start
      made_ran (one_more d c after left number lent behind s) = called (made_ran d) c after left number lent behind (k.returns s) (k.values s)

      -- no more is lent than there is, and the numbers are of their types
      pub made_sent : {cs : List (Call C.Action)} {w : World} {ss : List (Seen D)} → Made C Served m cs w ss → EachSent C m cs
      made_sent none_made = tt
      made_sent (one_more {cs} {w} {ss} d c after left number lent behind s) =
          let before = made_sent d in
          let long : length w.memory ≡ length m = ap (λ (x : World). length x.memory) (ran_is m (made_ran d)).0 ∙ memory_long cs before in
          (record { lends = omega (arith, k.lends_all s, length-take c.lent w.memory, long); typed = k.typed s }, before)

      pub made_follows : {cs : List (Call C.Action)} {w : World} {ss : List (Seen D)} → Made C Served m cs w ss
          → Follows form key_of C m cs × ((w ≡ world form key_of C m cs) × EachShows kept (content_answers form key_of C cs) ss)
      made_follows d = follows_kept (made_ran d) (made_sent d)
