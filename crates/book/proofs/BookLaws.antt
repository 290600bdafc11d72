-- Laws of the book's list: what is found, counted and kept after a record is placed, amended or dropped. The order of the records stands in
-- `place` alone; what follows uses these laws of it and not its clauses. Assumes nothing.
use Prim.Native.Nat.{ℕ, suc, ◌+◌, ◌≤◌, suc-le-suc}
use native.Mathlib.Omega.{arith}
use native.Mathlib.Nat.{le_refl}
use mathlib.Core.Path.{◌≡◌, refl, sym, ap, ◌∙◌, subst}
use mathlib.Core.Logic.{◌≢◌}
use mathlib.Core.Bool.{Bool, true, false, cond, not}
use mathlib.Core.List.{List, [], ◌∷◌}
use lib.ListN.{length}
use Rattle.std.specs.Prelude.{None, Some}
use Rattle.record.specs.Record.{Record}
use Rattle.record.specs.Store.{same_id, lacks, distinct}
use Rattle.dialog_id.specs.Ident.{Ident, same_ident}
use Rattle.book.specs.Book.{Book, ident_of, find, place, amend, Staying, others, stays, keep, early_in, early_of}
use Rattle.book.specs.Trace.{All}
use Rattle.book.proofs.IdentLaws.{same_ident_lem, other_ident, here, there, id_cases}

-- ---- a record that may be held

pub some_is : {x y : Record} → Some x ≡ Some y → x ≡ y
some_is e = cc

pub no_record : {X : Type 0} {r : Record} → None ≡ Some r → X
no_record e = absurd (let z : ◌≡◌ {A = ℕ} 0 1 = cc in omega arith)

pub not_none : {X : Type 0} {r : Record} → Some r ≡ None → X
not_none e = absurd (let z : ◌≡◌ {A = ℕ} 0 1 = cc in omega arith)

-- ---- found or not

-- no identifier twice
abbrev pub Distinct : Book → Type 0
Distinct [] = Unit {0}
Distinct (r ∷ b) = (find (ident_of r) b ≡ None) × Distinct b

pub find_here : (i : Ident) (r : Record) (b : Book) → ident_of r ≡ i → find i (r ∷ b) ≡ Some r
find_here i r b e = here _ _ e (Some r) (find i b)

pub find_there : (i : Ident) (r : Record) (b : Book) → ident_of r ≢ i → find i (r ∷ b) ≡ find i b
find_there i r b n = there _ _ n (Some r) (find i b)

-- ---- place

pub place_here : (r x : Record) (b : Book) → ident_of x ≡ ident_of r → place r (x ∷ b) ≡ r ∷ b
place_here r x b e = here _ _ e (r ∷ b) (x ∷ place r b)

pub place_there : (r x : Record) (b : Book) → ident_of x ≢ ident_of r → place r (x ∷ b) ≡ x ∷ place r b
place_there r x b n = there _ _ n (r ∷ b) (x ∷ place r b)

pub find_place_same : (r : Record) (b : Book) → find (ident_of r) (place r b) ≡ Some r
find_place_same r [] = find_here (ident_of r) r [] refl
find_place_same r (x ∷ b) =
    id_cases (ident_of r) x
    (λ e. ap (find (ident_of r)) (place_here r x b e) ∙ find_here (ident_of r) r b refl)
    (λ n. ap (find (ident_of r)) (place_there r x b n) ∙ (find_there (ident_of r) x (place r b) n ∙ find_place_same r b))

pub find_place_other : (i : Ident) (r : Record) (b : Book) → ident_of r ≢ i → find i (place r b) ≡ find i b
find_place_other i r [] h = find_there i r [] h
find_place_other i r (x ∷ b) h =
    id_cases (ident_of r) x
    (λ e. ap (find i) (place_here r x b e) ∙ (find_there i r b h ∙ sym (find_there i x b (λ q. h (sym e ∙ q)))))
    (λ n. ap (find i) (place_there r x b n) ∙ id_cases i x
    (λ e. find_here i x (place r b) e ∙ sym (find_here i x b e))
    (λ m. find_there i x (place r b) m ∙ (find_place_other i r b h ∙ sym (find_there i x b m))))

pub place_distinct : (r : Record) (b : Book) → Distinct b → Distinct (place r b)
place_distinct r [] d = (refl, tt)
place_distinct r (x ∷ b) d =
    id_cases (ident_of r) x
    (λ e. subst Distinct (sym (place_here r x b e)) (subst (λ i. find i b ≡ None) e d.0, d.1))
    (λ n. subst Distinct (sym (place_there r x b n)) (find_place_other (ident_of x) r b (λ q. n (sym q)) ∙ d.0, place_distinct r b d.1))

pub place_length : (r : Record) (b : Book) → length (place r b) ≤ suc (length b)
place_length r [] = le_refl _
place_length r (x ∷ b) =
    id_cases (ident_of r) x
    (λ e. subst (λ l. length l ≤ suc (suc (length b))) (sym (place_here r x b e)) (omega arith))
    (λ n. subst (λ l. length l ≤ suc (suc (length b))) (sym (place_there r x b n)) (suc-le-suc (place_length r b)))

pub place_all : (P : Record → Type 0) (r : Record) (b : Book) → P r → All P b → All P (place r b)
place_all P r [] p a = (p, tt)
place_all P r (x ∷ b) p a =
    id_cases (ident_of r) x
    (λ e. subst (All P) (sym (place_here r x b e)) (p, a.1))
    (λ n. subst (All P) (sym (place_there r x b n)) (a.0, place_all P r b p a.1))

-- ---- keep

pub keep_here : (k : Staying) (r : Record) (b : Book) → stays k r ≡ true → keep k (r ∷ b) ≡ r ∷ keep k b
keep_here k r b e = rw e

pub keep_there : (k : Staying) (r : Record) (b : Book) → stays k r ≡ false → keep k (r ∷ b) ≡ keep k b
keep_there k r b e = rw e

-- what holds of a book without its first record, and of a book that keeps it
module _ (k : Staying) (P : Book → Type 0) (r : Record) (b : Book) where
  keep_step : P (r ∷ keep k b) → P (keep k b) → P (keep k (r ∷ b))
  keep_step p q = go (stays k r)
    where
      go : (t : Bool) → P (cond t (r ∷ keep k b) (keep k b))
      go true = p
      go false = q

pub keep_none : (k : Staying) (i : Ident) (b : Book) → find i b ≡ None → find i (keep k b) ≡ None
keep_none k i [] h = refl
keep_none k i (x ∷ b) h =
    id_cases i x
    (λ e. not_none (sym (find_here i x b e) ∙ h))
    (λ n. let t : find i b ≡ None = sym (find_there i x b n) ∙ h in
    keep_step k (λ l. find i l ≡ None) x b (find_there i x (keep k b) n ∙ keep_none k i b t) (keep_none k i b t))

pub keep_distinct : (k : Staying) (b : Book) → Distinct b → Distinct (keep k b)
keep_distinct k [] d = tt
keep_distinct k (x ∷ b) d = keep_step k Distinct x b (keep_none k (ident_of x) b d.0, keep_distinct k b d.1) (keep_distinct k b d.1)

-- a record that is found after a drop was found before
pub keep_found : (k : Staying) (i : Ident) (r : Record) (b : Book) → Distinct b → find i (keep k b) ≡ Some r → find i b ≡ Some r
keep_found k i r [] d h = h
keep_found k i r (x ∷ b) d h = keep_step k (λ l. find i l ≡ Some r → find i (x ∷ b) ≡ Some r) x b (stays (keep_found k i r b d.1)) (goes (keep_found k i r b d.1)) h
  where
    stays : (find i (keep k b) ≡ Some r → find i b ≡ Some r) → find i (x ∷ keep k b) ≡ Some r → find i (x ∷ b) ≡ Some r
    stays ih f =
        id_cases i x
        (λ e. find_here i x b e ∙ (sym (find_here i x (keep k b) e) ∙ f))
        (λ n. find_there i x b n ∙ ih (sym (find_there i x (keep k b) n) ∙ f))

    goes : (find i (keep k b) ≡ Some r → find i b ≡ Some r) → find i (keep k b) ≡ Some r → find i (x ∷ b) ≡ Some r
    goes ih f =
        id_cases i x
        (λ e. let z : find i (keep k b) ≡ None = keep_none k i b (subst (λ j. find j b ≡ None) e d.0) in cc)
        (λ n. find_there i x b n ∙ ih f)

pub keep_length : (k : Staying) (b : Book) → length (keep k b) ≤ length b
keep_length k [] = le_refl _
keep_length k (x ∷ b) = keep_step k (λ l. length l ≤ suc (length b)) x b (suc-le-suc (keep_length k b)) (omega (arith, keep_length k b))

pub keep_all : (k : Staying) (P : Record → Type 0) (b : Book) → All P b → All P (keep k b)
keep_all k P [] a = tt
keep_all k P (x ∷ b) a = keep_step k (All P) x b (a.0, keep_all k P b a.1) (keep_all k P b a.1)

pub keep_early : (k : Staying) (t : List ℕ) (b : Book) → early_of t (keep k b) ≤ early_of t b
keep_early k t [] = le_refl _
keep_early k t (x ∷ b) = keep_step k (λ l. early_of t l ≤ early_in t x + early_of t b) x b (omega (arith, keep_early k t b)) (omega (arith, keep_early k t b))

-- ---- amend

pub amend_here : (r x : Record) (b : Book) → ident_of x ≡ ident_of r → amend r (x ∷ b) ≡ r ∷ b
amend_here r x b e = here _ _ e (r ∷ b) (x ∷ amend r b)

pub amend_there : (r x : Record) (b : Book) → ident_of x ≢ ident_of r → amend r (x ∷ b) ≡ x ∷ amend r b
amend_there r x b n = there _ _ n (r ∷ b) (x ∷ amend r b)

pub find_amend_same : (r w : Record) (b : Book) → find (ident_of r) b ≡ Some w → find (ident_of r) (amend r b) ≡ Some r
find_amend_same r w [] h = cc
find_amend_same r w (x ∷ b) h =
    id_cases (ident_of r) x
    (λ e. ap (find (ident_of r)) (amend_here r x b e) ∙ find_here (ident_of r) r b refl)
    (λ n. ap (find (ident_of r)) (amend_there r x b n) ∙ (find_there (ident_of r) x (amend r b) n ∙ find_amend_same r w b (sym (find_there (ident_of r) x b n) ∙ h)))

pub find_amend_other : (i : Ident) (r : Record) (b : Book) → ident_of r ≢ i → find i (amend r b) ≡ find i b
find_amend_other i r [] h = refl
find_amend_other i r (x ∷ b) h =
    id_cases (ident_of r) x
    (λ e. ap (find i) (amend_here r x b e) ∙ (find_there i r b h ∙ sym (find_there i x b (λ q. h (sym e ∙ q)))))
    (λ n. ap (find i) (amend_there r x b n) ∙ id_cases i x
    (λ e. find_here i x (amend r b) e ∙ sym (find_here i x b e))
    (λ m. find_there i x (amend r b) m ∙ (find_amend_other i r b h ∙ sym (find_there i x b m))))

pub amend_distinct : (r : Record) (b : Book) → Distinct b → Distinct (amend r b)
amend_distinct r [] d = tt
amend_distinct r (x ∷ b) d =
    id_cases (ident_of r) x
    (λ e. subst Distinct (sym (amend_here r x b e)) (subst (λ i. find i b ≡ None) e d.0, d.1))
    (λ n. subst Distinct (sym (amend_there r x b n)) (find_amend_other (ident_of x) r b (λ q. n (sym q)) ∙ d.0, amend_distinct r b d.1))

pub amend_length : (r : Record) (b : Book) → length (amend r b) ≡ length b
amend_length r [] = refl
amend_length r (x ∷ b) =
    id_cases (ident_of r) x
    (λ e. ap length (amend_here r x b e))
    (λ n. ap length (amend_there r x b n) ∙ ap suc (amend_length r b))

pub amend_all : (P : Record → Type 0) (r : Record) (b : Book) → P r → All P b → All P (amend r b)
amend_all P r [] p a = tt
amend_all P r (x ∷ b) p a =
    id_cases (ident_of r) x
    (λ e. subst (All P) (sym (amend_here r x b e)) (p, a.1))
    (λ n. subst (All P) (sym (amend_there r x b n)) (a.0, amend_all P r b p a.1))

pub amend_early : (t : List ℕ) (r w : Record) (b : Book) → find (ident_of r) b ≡ Some w → early_in t r ≤ early_in t w → early_of t (amend r b) ≤ early_of t b
amend_early t r w [] h q = le_refl _
amend_early t r w (x ∷ b) h q =
    id_cases (ident_of r) x
    (λ e. let z : x ≡ w = some_is (sym (find_here (ident_of r) x b e) ∙ h) in
    subst (λ l. early_of t l ≤ early_of t (x ∷ b)) (sym (amend_here r x b e)) (omega (arith, ap (early_in t) z)))
    (λ n. subst (λ l. early_of t l ≤ early_of t (x ∷ b)) (sym (amend_there r x b n))
    (omega (arith, amend_early t r w b (sym (find_there (ident_of r) x b n) ∙ h) q)))

-- ---- what is found has the identifier asked for, and is held

pub find_ident : (i : Ident) (r : Record) (b : Book) → find i b ≡ Some r → ident_of r ≡ i
find_ident i r [] h = no_record h
find_ident i r (x ∷ b) h =
    id_cases i x
    (λ e. let z : x ≡ r = some_is (sym (find_here i x b e) ∙ h) in sym (ap ident_of z) ∙ e)
    (λ n. find_ident i r b (sym (find_there i x b n) ∙ h))

pub find_all : (P : Record → Type 0) (i : Ident) (r : Record) (b : Book) → find i b ≡ Some r → All P b → P r
find_all P i r [] h a = no_record h
find_all P i r (x ∷ b) h a =
    id_cases i x
    (λ e. let z : x ≡ r = some_is (sym (find_here i x b e) ∙ h) in subst P z a.0)
    (λ n. find_all P i r b (sym (find_there i x b n) ∙ h) a.1)

-- ---- placing: the Early of a Call-ID

pub others_here : (i : Ident) (x : Record) → ident_of x ≡ i → stays (others i) x ≡ false
others_here i x e = ap not (same_ident_lem (ident_of x) i e)

pub others_there : (i : Ident) (x : Record) → ident_of x ≢ i → stays (others i) x ≡ true
others_there i x n = ap not (other_ident (ident_of x) i n)

-- a book without the identifier keeps all
pub others_all : (i : Ident) (b : Book) → find i b ≡ None → keep (others i) b ≡ b
others_all i [] h = refl
others_all i (x ∷ b) h =
    id_cases i x
    (λ e. not_none (sym (find_here i x b e) ∙ h))
    (λ n. keep_here (others i) x b (others_there i x n) ∙ ap (λ l. x ∷ l) (others_all i b (sym (find_there i x b n) ∙ h)))

pub others_gone : (i : Ident) (b : Book) → find i (keep (others i) b) ≡ None
others_gone i [] = refl
others_gone i (x ∷ b) =
    id_cases i x
    (λ e. ap (find i) (keep_there (others i) x b (others_here i x e)) ∙ others_gone i b)
    (λ n. ap (find i) (keep_here (others i) x b (others_there i x n)) ∙ (find_there i x (keep (others i) b) n ∙ others_gone i b))

pub place_early : (t : List ℕ) (r : Record) (b : Book) → Distinct b → early_of t (place r b) ≡ early_in t r + early_of t (keep (others (ident_of r)) b)
place_early t r [] d = refl
place_early t r (x ∷ b) d =
    id_cases (ident_of r) x
    (λ e. ap (early_of t) (place_here r x b e)
    ∙ ap (λ l. early_in t r + early_of t l)
    (sym (keep_there (others (ident_of r)) x b (others_here (ident_of r) x e) ∙ others_all (ident_of r) b (subst (λ i. find i b ≡ None) e d.0))))
    (λ n. let p : early_of t (place r (x ∷ b)) ≡ early_in t x + early_of t (place r b) = ap (early_of t) (place_there r x b n) in
    let q : early_of t (keep (others (ident_of r)) (x ∷ b)) ≡ early_in t x + early_of t (keep (others (ident_of r)) b) = ap (early_of t) (keep_here (others (ident_of r)) x b (others_there (ident_of r) x n)) in
    omega (arith, place_early t r b d.1))

-- ---- the record crate's test

lacks_none : (r : Record) (b : Book) → find (ident_of r) b ≡ None → lacks b r ≡ true
unfolding lacks same_ident
lacks_none r [] h = refl
lacks_none r (x ∷ b) h = by (same_id x r) refl (λ e. lacks_none r b e)
  where
    by : (t : Bool) → same_id x r ≡ t → (find (ident_of r) b ≡ None → lacks b r ≡ true) → lacks (x ∷ b) r ≡ true
    by true e ih = not_none (sym (ap (λ t. cond t (Some x) (find (ident_of r) b)) e) ∙ h)
    by false e ih = rw e (ih (sym (ap (λ t. cond t (Some x) (find (ident_of r) b)) e) ∙ h))

-- a book without an identifier twice passes it
pub distinct_test : (b : Book) → Distinct b → distinct b ≡ true
unfolding distinct
distinct_test [] d = refl
distinct_test (r ∷ b) d = rw (lacks_none r b d.0) (distinct_test b d.1)
