-- What document 01 says of the book, sentence by sentence, as equations of the definitions. Assumes nothing.
use Prim.Native.Nat.{ℕ, ◌+◌, ◌≤◌}
use native.Mathlib.Omega.{arith}
use native.Mathlib.Nat.{le_refl}
use mathlib.Core.Path.{◌≡◌, refl, sym, ap, ap₂, subst, ◌∙◌}
use mathlib.Core.Logic.{◌≢◌}
use mathlib.Core.Bool.{Bool, true, false, cond, not, ◌&&◌, false≢true}
use mathlib.Core.List.{List, [], ◌∷◌, ◌++◌, map}
use lib.ListN.{length, take, drop, length-append}
use lib.Seq.{take-append_seam, drop-append-add}
use lib.Dec.{leb, ltb}
use borrow.Author.Tests.{le-leb, lt-leb, le-ltb}
use Rattle.std.specs.Prelude.{Err, None, Ok, Option, Result, Some}
use Rattle.std.proofs.lemmas.Bool.{and_parts, and_right}
use Rattle.limits.specs.Limits.{LimitSet}
use Rattle.limits.specs.Outcome.{refuse_by, refuse_if, and_then, or_refuse}
use Rattle.limits.specs.declared.Refusal.{Refusal}
use Rattle.limits.specs.declared.Refusal.TheVariants.{BadStore, NotFound, TooManyDialogs, TooManyEarlyDialogs, NoRoom}
use Rattle.text.specs.Text.{equal}
use Rattle.dialog_id.specs.DialogId.{Identifier, identifier_of, from_name, to_name}
use Rattle.text.proofs.Sames.{equal_same, equal_is}
use Rattle.codec.specs.Codec.{write_all}
use Rattle.record.specs.Record.{State, early, confirmed, terminated, Record, image}
use Rattle.dialog_rules.specs.OneImage.{one_record}
use Rattle.dialog_rules.specs.Matching.{named_by}
use Rattle.dialog_rules.proofs.StepLaws.{given_same, never_given}
use Rattle.dialog_id.specs.Ident.{Ident}
use Rattle.book.specs.Calls.{Reading, Call, put, remove, read, lent, Value, image_at, no_value}
use Rattle.book.specs.Book.{Book, Contents, records_image, size, ident_of, is_of, swapped, named_in, find, find_named, place, Staying, others, living, is_terminated, stays, keep, is_early, is_early_of, early_in, early_of, is_full, is_crowded, argument_cause, place_of, reply, set, only, unchanged, revise, apply, Taken, taking, judge, fitting, decide, after}
use Rattle.book.specs.Trace.{All}
use Rattle.book.proofs.IdentLaws.{id_cases}
use Rattle.book.proofs.BookLaws.{some_is, no_record, not_none, Distinct, find_here, find_there, place_here, place_there, keep_here, keep_there, others_here, others_there, others_all, others_gone, find_ident}
use Rattle.book.proofs.WindowLaws.{no_refusal}

-- ---- "Records lie one after another in insertion order (added); a replacement keeps its place"

pub new_last : (r : Record) (b : Book) → find (ident_of r) b ≡ None → place r b ≡ b ++ (r ∷ [])
new_last r [] h = refl
new_last r (x ∷ b) h =
    id_cases (ident_of r) x
    (λ e. not_none (sym (find_here (ident_of r) x b e) ∙ h))
    (λ n. place_there r x b n ∙ ap (λ l. x ∷ l) (new_last r b (sym (find_there (ident_of r) x b n) ∙ h)))

pub replaced_there : (r w : Record) (b : Book) → find (ident_of r) b ≡ Some w → map ident_of (place r b) ≡ map ident_of b
replaced_there r w [] h = no_record h
replaced_there r w (x ∷ b) h =
    id_cases (ident_of r) x
    (λ e. ap (map ident_of) (place_here r x b e) ∙ ap (λ i. i ∷ map ident_of b) (sym e))
    (λ n. ap (map ident_of) (place_there r x b n) ∙ ap (λ l. ident_of x ∷ l) (replaced_there r w b (sym (find_there (ident_of r) x b n) ∙ h)))

-- ---- "it refuses at 10,000 even a replacement"

pub full_refused : (L : LimitSet) (n : ℕ) (s : List ℕ) (r : Record) (b : Book) → one_record s ≡ Ok r → L.dialogs ≤ length b → judge L (put n s) b ≡ Err TooManyDialogs
unfolding judge is_full
full_refused L n s r b e h =
    ap (λ o. and_then o (λ x. refuse_if (leb L.dialogs (length b)) TooManyDialogs (refuse_if (is_crowded L x b) TooManyEarlyDialogs (taking (set x) no_value)))) e
    ∙ ap (λ t. refuse_if t TooManyDialogs (refuse_if (is_crowded L r b) TooManyEarlyDialogs (taking (set r) no_value))) (le-leb L.dialogs (length b) h)

-- ---- "Early put, 100 other Early of this Call-ID"

-- the Early of a Call-ID are those of one held identifier and the others
early_split : (t : List ℕ) (i : Ident) (w : Record) (b : Book) → Distinct b → find i b ≡ Some w → early_of t b ≡ early_in t w + early_of t (keep (others i) b)
early_split t i w [] d h = no_record h
early_split t i w (x ∷ b) d h =
    id_cases i x
    (λ e. let z : x ≡ w = some_is (sym (find_here i x b e) ∙ h) in
    ap₂ (λ y l. early_in t y + early_of t l) z (sym (keep_there (others i) x b (others_here i x e) ∙ others_all i b (subst (λ j. find j b ≡ None) e d.0))))
    (λ n. let k : early_of t (keep (others i) (x ∷ b)) ≡ early_in t x + early_of t (keep (others i) b) = ap (early_of t) (keep_here (others i) x b (others_there i x n)) in
    let ih = early_split t i w b d.1 (sym (find_there i x b n) ∙ h) in
    omega (arith, k, ih))

-- an Early record that is held is put again, with 100 of its Call-ID held
pub own_uncounted : (L : LimitSet) (r w : Record) (b : Book) → Distinct b → find (ident_of r) b ≡ Some w → is_early_of r.call_id w ≡ true → early_of r.call_id b ≤ L.early_per_call_id → is_crowded L r b ≡ false
unfolding is_crowded
own_uncounted L r w b d h e c =
    let one : ◌≡◌ {A = ℕ} (early_in r.call_id w) 1 = ap (λ t. cond t 1 0) e in
    let k = early_split r.call_id (ident_of r) w b d h in
    and_right (is_early r.numbers.state) (leb L.early_per_call_id (early_of r.call_id (keep (others (ident_of r)) b))) (lt-leb L.early_per_call_id (early_of r.call_id (keep (others (ident_of r)) b)) (omega (arith, one, k, c)))

-- a new Early record is not, with 100 others
pub crowded_refused : (L : LimitSet) (r : Record) (b : Book) → is_early r.numbers.state ≡ true → L.early_per_call_id ≤ early_of r.call_id (keep (others (ident_of r)) b) → is_crowded L r b ≡ true
unfolding is_crowded
crowded_refused L r b e h = ap₂ (λ p q. p && q) e (le-leb L.early_per_call_id (early_of r.call_id (keep (others (ident_of r)) b)) h)

-- ---- "A removal drops one, a sweep all that are Terminated"

pub removed : (i : Ident) (b : Book) → find i (keep (others i) b) ≡ None
removed i b = others_gone i b

pub removal_drops : (L : LimitSet) (n : ℕ) (i : Ident) (b : Book) (t : Taken) → judge L (remove n i) b ≡ Ok t → revise t.change b ≡ keep (others i) b
unfolding judge
removal_drops L n i b t h = by (find i b) h
  where
    by : (o : Option Record) → and_then (or_refuse NotFound o) (λ r. taking (only (others i)) no_value) ≡ Ok t → revise t.change b ≡ keep (others i) b
    by None e = absurd (never_given e)
    by (Some r) e = sym (ap (λ (y : Taken). revise y.change b) (given_same e))

pub others_found : (i j : Ident) (b : Book) → j ≢ i → find j (keep (others i) b) ≡ find j b
others_found i j [] n = refl
others_found i j (x ∷ b) n =
    id_cases i x
    (λ e. ap (find j) (keep_there (others i) x b (others_here i x e)) ∙ (others_found i j b n ∙ sym (find_there j x b (λ q. n (sym q ∙ e)))))
    (λ m. ap (find j) (keep_here (others i) x b (others_there i x m)) ∙ id_cases j x
    (λ e. find_here j x (keep (others i) b) e ∙ sym (find_here j x b e))
    (λ k. find_there j x (keep (others i) b) k ∙ (others_found i j b n ∙ sym (find_there j x b k))))

abbrev Living : Record → Type 0
Living r = r.numbers.state ≢ terminated

ended : (s : State) → is_terminated s ≡ true → s ≡ terminated
ended early e = absurd (false≢true e)
ended confirmed e = absurd (false≢true e)
ended terminated e = refl

going : (s : State) → is_terminated s ≡ false → s ≢ terminated
going early e q = absurd (let z : ◌≡◌ {A = ℕ} 0 1 = cc in omega arith)
going confirmed e q = absurd (let z : ◌≡◌ {A = ℕ} 0 1 = cc in omega arith)
going terminated e q = absurd (false≢true (sym e))

pub swept : (b : Book) → All Living (keep living b)
swept [] = tt
swept (r ∷ b) = by (is_terminated r.numbers.state) refl (swept b)
  where
    by : (t : Bool) → is_terminated r.numbers.state ≡ t → All Living (keep living b) → All Living (cond (not t) (r ∷ keep living b) (keep living b))
    by true e h = h
    by false e h = (going r.numbers.state e, h)

pub living_found : (i : Ident) (r : Record) (b : Book) → find i b ≡ Some r → Living r → find i (keep living b) ≡ Some r
living_found i r [] h l = h
living_found i r (x ∷ b) h l = by (is_terminated x.numbers.state) refl (λ e. living_found i r b e l)
  where
    by : (t : Bool) → is_terminated x.numbers.state ≡ t → (find i b ≡ Some r → find i (keep living b) ≡ Some r) → find i (cond (not t) (x ∷ keep living b) (keep living b)) ≡ Some r
    by true e ih =
        id_cases i x
        (λ q. let z : x ≡ r = some_is (sym (find_here i x b q) ∙ h) in absurd (l (ap (λ (y : Record). y.numbers.state) (sym z) ∙ ended x.numbers.state e)))
        (λ n. ih (sym (find_there i x b n) ∙ h))
    by false e ih =
        id_cases i x
        (λ q. find_here i x (keep living b) q ∙ (sym (find_here i x b q) ∙ h))
        (λ n. find_there i x (keep living b) n ∙ ih (sym (find_there i x b n) ∙ h))

-- ---- "Look-ups, other readings and refused calls change nothing"

pub reading_keeps : (L : LimitSet) (n : ℕ) (q : Reading) (b : Book) (t : Taken) → judge L (read n q) b ≡ Ok t → revise t.change b ≡ b
unfolding judge
reading_keeps L n q b t h = by (reply q b) h
  where
    by : (o : Result Value Refusal) → and_then o (λ v. taking unchanged v) ≡ Ok t → revise t.change b ≡ b
    by (Err cause) e = absurd (never_given e)
    by (Ok v) e = sym (ap (λ (y : Taken). revise y.change b) (given_same e))

pub refusal_keeps : (b : Contents) (cause : Refusal) → after (Err cause) b ≡ b
refusal_keeps b cause = refl

-- ---- 18 "result larger than its lent bytes": only then

pub fits_taken : (L : LimitSet) (c : Call) (x : Contents) (t : Taken) → argument_cause L c ≡ None → size x ≤ lent c → judge L c x.records ≡ Ok t → size (apply t.change x) ≤ lent c → decide L c x ≡ Ok t
unfolding decide fitting
fits_taken L c x t a h j f =
    ap (λ y. refuse_by y (refuse_if (ltb (lent c) (size x)) BadStore (and_then (judge L c x.records) (λ s. fitting (lent c) x s)))) a
    ∙ (no_refusal (ltb (lent c) (size x)) BadStore _ (le-ltb (lent c) (size x) h)
    ∙ (ap (λ v. and_then v (λ s. fitting (lent c) x s)) j
    ∙ no_refusal (ltb (lent c) (size (apply t.change x))) NoRoom _ (le-ltb (lent c) (size (apply t.change x)) f)))

-- dropping records takes no more bytes: a removal and a sweep never get 18
pub kept_size : (k : Staying) (b : Book) → length (records_image (keep k b)) ≤ length (records_image b)
unfolding write_all
kept_size k [] = le_refl _
kept_size k (r ∷ b) = by (stays k r) (kept_size k b)
  where
    by : (t : Bool) → length (records_image (keep k b)) ≤ length (records_image b) → length (records_image (cond t (r ∷ keep k b) (keep k b))) ≤ length (records_image (r ∷ b))
    by true h = omega (arith, length-append (image.write r) (records_image (keep k b)), length-append (image.write r) (records_image b), h)
    by false h = omega (arith, length-append (image.write r) (records_image b), h)

pub only_size : (k : Staying) (x : Contents) → size (apply (only k) x) ≤ size x
only_size k x = kept_size k x.records

-- ---- the place that a look-up answers

-- the image of the record found lies there
pub record Lies (i : Ident) (r : Record) (at : ℕ) (b : Book) : Type 0 where
  pub before : ℕ
  pub answer : place_of (is_of i) at b ≡ Some (image_at (at + before) (length (image.write r)))
  pub lies : take (length (image.write r)) (drop before (records_image b)) ≡ image.write r

pub lies_there : (i : Ident) (r : Record) (at : ℕ) (b : Book) → find i b ≡ Some r → Lies i r at b
unfolding place_of write_all
lies_there i r at [] h = no_record h
lies_there i r at (x ∷ b) h = by (is_of i x) refl (λ e. lies_there i r (at + length (image.write x)) b e)
  where
    by : (t : Bool) → is_of i x ≡ t → (find i b ≡ Some r → Lies i r (at + length (image.write x)) b) → Lies i r at (x ∷ b)
    by true e ih =
        let z : x ≡ r = some_is (sym (ap (λ t. cond t (Some x) (find i b)) e) ∙ h) in
        subst (λ y. Lies i y at (x ∷ b)) z
        (record {
          before = 0;
          answer = ap (λ t. cond t (Some (image_at at (length (image.write x)))) (place_of (is_of i) (at + length (image.write x)) b)) e ∙ ap (λ k. Some (image_at k (length (image.write x)))) (omega arith);
          lies = take-append_seam (image.write x) (records_image b);
        })
    by false e ih =
        let l = ih (sym (ap (λ t. cond t (Some x) (find i b)) e) ∙ h) in
        record {
          before = length (image.write x) + l.before;
          answer =
              ap (λ t. cond t (Some (image_at at (length (image.write x)))) (place_of (is_of i) (at + length (image.write x)) b)) e
              ∙ (l.answer ∙ ap (λ k. Some (image_at k (length (image.write r)))) (omega arith));
          lies = ap (take (length (image.write r))) (drop-append-add (image.write x) (records_image b) l.before) ∙ l.lies;
        }

-- ---- the record that `find_by_request` finds is the one that `matches_request` says yes to

pub found_matches : (block : List ℕ) (b : Book) (r : Record) → find_named (named_in block) b ≡ Some r → named_by r (identifier_of from_name to_name block) ≡ true
unfolding named_in
found_matches block b r h = by (identifier_of from_name to_name block) h
  where
    by : (o : Option Identifier) → find_named (swapped o) b ≡ Some r → named_by r o ≡ true
    by None h = no_record h
    by (Some i) h =
        let e = find_ident (record { call_id = i.call_id.text; local_tag = i.remote_tag.text; remote_tag = i.local_tag.text }) r b h in
        let c : r.call_id ≡ i.call_id.text = ap (λ (z : Ident). z.call_id) e in
        let l : r.local_tag ≡ i.remote_tag.text = ap (λ (z : Ident). z.local_tag) e in
        let m : r.remote_tag ≡ i.local_tag.text = ap (λ (z : Ident). z.remote_tag) e in
        rw (c, l, m, equal_same i.call_id.text, equal_same i.local_tag.text, equal_same i.remote_tag.text)

pub matching_found : (block : List ℕ) (b : Book) (r : Record) → find (ident_of r) b ≡ Some r → named_by r (identifier_of from_name to_name block) ≡ true → find_named (named_in block) b ≡ Some r
unfolding named_in
matching_found block b r f h = by (identifier_of from_name to_name block) h
  where
    by : (o : Option Identifier) → named_by r o ≡ true → find_named (swapped o) b ≡ Some r
    by None h = absurd (false≢true h)
    by (Some i) h =
        let p = and_parts (equal i.call_id.text r.call_id) (equal i.local_tag.text r.remote_tag && equal i.remote_tag.text r.local_tag) h in
        let q = and_parts (equal i.local_tag.text r.remote_tag) (equal i.remote_tag.text r.local_tag) p.1 in
        let c : i.call_id.text ≡ r.call_id = equal_is i.call_id.text r.call_id p.0 in
        let m : i.local_tag.text ≡ r.remote_tag = equal_is i.local_tag.text r.remote_tag q.0 in
        let l : i.remote_tag.text ≡ r.local_tag = equal_is i.remote_tag.text r.local_tag q.1 in
        subst (λ j. find j b ≡ Some r) (λ k. record { call_id = sym c k; local_tag = sym l k; remote_tag = sym m k }) f
