-- Entries in ascending order: what a set and a removal keep, where the entry of a key stands, and what a change is on the bytes. Assumes nothing.
use Prim.Native.Nat.{ℕ, ◌+◌, ◌≤◌}
use native.Mathlib.Omega.{arith}
use mathlib.Core.Path.{◌≡◌, refl, sym, ap, ap₂, subst, ◌∙◌}
use mathlib.Core.Bool.{Bool, true, false, cond, ◌&&◌}
use mathlib.Core.List.{List, [], ◌∷◌, ◌++◌, append_assoc}
use lib.ListN.{length, length-append}
use lib.Seq.{take-append_seam, drop-append_seam, drop-append-add}
use Rattle.std.specs.Prelude.{None, Some}
use Rattle.std.proofs.lemmas.Bool.{and_from, and_parts}
use Rattle.edit.specs.Edit.{spliced}
use Rattle.codec.specs.Codec.{Codec, write_all}
use Rattle.codec.proofs.CodecLaws.{GoodAll}
use Rattle.ordered_store.specs.Entries.{Key, set_by, encode_entries, ascending_from, ascending, entry_of, set_entry, without_entry}
use Rattle.ordered_store.specs.Order.{key_order, is_before, is_same}
use Rattle.ordered_store.specs.Slot.{Slot, held, free, slot_by, slot_in}
use Rattle.std.specs.declared.cmp.Ordering.{Ordering}
use Rattle.std.specs.declared.cmp.Ordering.TheVariants.{Less, Equal, Greater}
use Rattle.ordered_store.proofs.OrderLaws.{flip, key_itself, key_equal, key_mirror, key_transitive}

-- ---- the test of an order

is_before_lem : (o : Ordering) → is_before o ≡ true → o ≡ Less
is_before_lem Less e = refl
is_before_lem Equal e = absurd (let z : ◌≡◌ {A = ℕ} 0 1 = cc in omega arith)
is_before_lem Greater e = absurd (let z : ◌≡◌ {A = ℕ} 0 1 = cc in omega arith)

-- the order taken the other way round
pub turned : (k l : Key) (o : Ordering) → key_order k l ≡ o → key_order l k ≡ flip o
turned k l o e = key_mirror k l ∙ ap flip e

module _ {A : Type 0} (key_of : A → Key) where
  -- ---- one entry in front

  module _ (a e : A) (es : List A) where
    pub set_past : key_order (key_of e) (key_of a) ≡ Less → set_entry key_of a (e ∷ es) ≡ e ∷ set_entry key_of a es
    unfolding set_entry
    set_past h = ap (λ o. set_by o a e es (set_entry key_of a es)) h

    pub set_here : key_order (key_of e) (key_of a) ≡ Equal → set_entry key_of a (e ∷ es) ≡ a ∷ es
    unfolding set_entry
    set_here h = ap (λ o. set_by o a e es (set_entry key_of a es)) h

    pub set_ahead : key_order (key_of e) (key_of a) ≡ Greater → set_entry key_of a (e ∷ es) ≡ a ∷ e ∷ es
    unfolding set_entry
    set_ahead h = ap (λ o. set_by o a e es (set_entry key_of a es)) h

  module _ (k : Key) (e : A) (es : List A) where
    pub of_here : key_order (key_of e) k ≡ Equal → entry_of key_of k (e ∷ es) ≡ Some e
    unfolding entry_of
    of_here h = ap (λ o. cond (is_same o) (Some e) (entry_of key_of k es)) h

    pub of_past : is_same (key_order (key_of e) k) ≡ false → entry_of key_of k (e ∷ es) ≡ entry_of key_of k es
    unfolding entry_of
    of_past h = ap (λ t. cond t (Some e) (entry_of key_of k es)) h

    pub without_here : key_order (key_of e) k ≡ Equal → without_entry key_of k (e ∷ es) ≡ es
    unfolding without_entry
    without_here h = ap (λ o. cond (is_same o) es (e ∷ without_entry key_of k es)) h

    pub without_past : is_same (key_order (key_of e) k) ≡ false → without_entry key_of k (e ∷ es) ≡ e ∷ without_entry key_of k es
    unfolding without_entry
    without_past h = ap (λ t. cond t es (e ∷ without_entry key_of k es)) h

  -- ---- ascending

  module _ (e f : A) (es : List A) where
    pub ascends : key_order (key_of e) (key_of f) ≡ Less → ascending_from key_of f es ≡ true → ascending_from key_of e (f ∷ es) ≡ true
    unfolding ascending_from
    ascends h k = and_from (is_before (key_order (key_of e) (key_of f))) (ascending_from key_of f es) (ap is_before h) k

    pub next_later : ascending_from key_of e (f ∷ es) ≡ true → key_order (key_of e) (key_of f) ≡ Less
    unfolding ascending_from
    next_later h = is_before_lem (key_order (key_of e) (key_of f)) (and_parts (is_before (key_order (key_of e) (key_of f))) (ascending_from key_of f es) h).0

    pub next_ascends : ascending_from key_of e (f ∷ es) ≡ true → ascending_from key_of f es ≡ true
    unfolding ascending_from
    next_ascends h = (and_parts (is_before (key_order (key_of e) (key_of f))) (ascending_from key_of f es) h).1

  -- only the key of the first counts
  key_alone : (e f : A) (es : List A) → key_of e ≡ key_of f → ascending_from key_of e es ≡ ascending_from key_of f es
  unfolding ascending_from
  key_alone e f [] h = refl
  key_alone e f (g ∷ es) h = ap (λ k. is_before (key_order k (key_of g)) && ascending_from key_of g es) h

  -- one before the first is before the others
  earlier : (e f : A) (es : List A) → key_order (key_of e) (key_of f) ≡ Less → ascending_from key_of f es ≡ true → ascending_from key_of e es ≡ true
  unfolding ascending_from
  earlier e f [] h k = refl
  earlier e f (g ∷ es) h k = ascends e g es (key_transitive (key_of e) (key_of f) (key_of g) h (next_later f g es k)) (next_ascends f g es k)

  set_alone : (a e : A) → key_order (key_of e) (key_of a) ≡ Less → ascending_from key_of e (set_entry key_of a []) ≡ true
  unfolding set_entry ascending_from
  set_alone a e h = and_from (is_before (key_order (key_of e) (key_of a))) true (ap is_before h) refl

  set_from : (a e : A) (es : List A) → key_order (key_of e) (key_of a) ≡ Less → ascending_from key_of e es ≡ true → ascending_from key_of e (set_entry key_of a es) ≡ true
  set_from a e [] h k = set_alone a e h
  set_from a e (f ∷ es) h k = by (key_order (key_of f) (key_of a)) refl (λ p. set_from a f es p (next_ascends e f es k))
    where
      later : key_order (key_of e) (key_of f) ≡ Less
      later = next_later e f es k

      by : (o : Ordering) → key_order (key_of f) (key_of a) ≡ o → (key_order (key_of f) (key_of a) ≡ Less → ascending_from key_of f (set_entry key_of a es) ≡ true)
          → ascending_from key_of e (set_entry key_of a (f ∷ es)) ≡ true
      by Less p more = subst (λ l. ascending_from key_of e l ≡ true) (sym (set_past a f es p)) (ascends e f (set_entry key_of a es) later (more p))
      by Equal p more =
          subst (λ l. ascending_from key_of e l ≡ true) (sym (set_here a f es p))
          (ascends e a es h (sym (key_alone f a es (key_equal (key_of f) (key_of a) p)) ∙ next_ascends e f es k))
      by Greater p more =
          subst (λ l. ascending_from key_of e l ≡ true) (sym (set_ahead a f es p))
          (ascends e a (f ∷ es) h (ascends a f es (turned (key_of f) (key_of a) Greater p) (next_ascends e f es k)))

  -- a set keeps the order
  pub set_ascends : (a : A) (es : List A) → ascending key_of es ≡ true → ascending key_of (set_entry key_of a es) ≡ true
  unfolding set_entry ascending_from
  set_ascends a [] k = refl
  set_ascends a (e ∷ es) k = by (key_order (key_of e) (key_of a)) refl
    where
      by : (o : Ordering) → key_order (key_of e) (key_of a) ≡ o → ascending key_of (set_by o a e es (set_entry key_of a es)) ≡ true
      by Less p = set_from a e es p k
      by Equal p = sym (key_alone e a es (key_equal (key_of e) (key_of a) p)) ∙ k
      by Greater p = ascends a e es (turned (key_of e) (key_of a) Greater p) k

  without_from : (k : Key) (e : A) (es : List A) → ascending_from key_of e es ≡ true → ascending_from key_of e (without_entry key_of k es) ≡ true
  unfolding without_entry
  without_from k e [] h = h
  without_from k e (f ∷ es) h = by (is_same (key_order (key_of f) k)) (without_from k f es (next_ascends e f es h))
    where
      by : (t : Bool) → ascending_from key_of f (without_entry key_of k es) ≡ true → ascending_from key_of e (cond t es (f ∷ without_entry key_of k es)) ≡ true
      by true more = earlier e f es (next_later e f es h) (next_ascends e f es h)
      by false more = ascends e f (without_entry key_of k es) (next_later e f es h) more

  rest_ascends : (e : A) (es : List A) → ascending_from key_of e es ≡ true → ascending key_of es ≡ true
  rest_ascends e [] h = refl
  rest_ascends e (f ∷ es) h = next_ascends e f es h

  -- a removal keeps the order
  pub without_ascends : (k : Key) (es : List A) → ascending key_of es ≡ true → ascending key_of (without_entry key_of k es) ≡ true
  unfolding without_entry
  without_ascends k [] h = refl
  without_ascends k (e ∷ es) h = by (is_same (key_order (key_of e) k))
    where
      by : (t : Bool) → ascending key_of (cond t es (e ∷ without_entry key_of k es)) ≡ true
      by true = rest_ascends e es h
      by false = without_from k e es h

  -- what comes after other entries ascends too
  pub back_ascends : (front back : List A) → ascending key_of (front ++ back) ≡ true → ascending key_of back ≡ true
  back_ascends [] back h = h
  back_ascends (e ∷ front) back h = back_ascends front back (rest_ascends e (front ++ back) h)

  -- ---- goodness

  module _ (Good : A → Type 0) where
    -- a set and a removal keep what holds of every entry
    pub set_good : (a : A) (es : List A) → Good a → GoodAll Good es → GoodAll Good (set_entry key_of a es)
    unfolding set_entry
    set_good a [] g h = (g, tt)
    set_good a (e ∷ es) g h = by (key_order (key_of e) (key_of a)) (set_good a es g h.1)
      where
        by : (o : Ordering) → GoodAll Good (set_entry key_of a es) → GoodAll Good (set_by o a e es (set_entry key_of a es))
        by Less more = (h.0, more)
        by Equal more = (g, h.1)
        by Greater more = (g, (h.0, h.1))

    pub without_good : (k : Key) (es : List A) → GoodAll Good es → GoodAll Good (without_entry key_of k es)
    unfolding without_entry
    without_good k [] h = tt
    without_good k (e ∷ es) h = by (is_same (key_order (key_of e) k)) (without_good k es h.1)
      where
        by : (t : Bool) → GoodAll Good (without_entry key_of k es) → GoodAll Good (cond t es (e ∷ without_entry key_of k es))
        by true more = h.1
        by false more = (h.0, more)

    -- an entry that is found is good
    pub found_good : (k : Key) (es : List A) (a : A) → GoodAll Good es → entry_of key_of k es ≡ Some a → Good a
    unfolding entry_of
    found_good k [] a h e = absurd (let z : ◌≡◌ {A = ℕ} 0 1 = cc in omega arith)
    found_good k (f ∷ es) a h e = by (is_same (key_order (key_of f) k)) e (found_good k es a h.1)
      where
        by : (t : Bool) → cond t (Some f) (entry_of key_of k es) ≡ Some a → (entry_of key_of k es ≡ Some a → Good a) → Good a
        by true e more = let z : f ≡ a = cc in subst Good z h.0
        by false e more = more e

  -- the entry found is the one set
  pub set_found : (a : A) (es : List A) → entry_of key_of (key_of a) (set_entry key_of a es) ≡ Some a
  unfolding set_entry
  set_found a [] = of_here (key_of a) a [] (key_itself (key_of a))
  set_found a (e ∷ es) = by (key_order (key_of e) (key_of a)) refl (set_found a es)
    where
      by : (o : Ordering) → key_order (key_of e) (key_of a) ≡ o → entry_of key_of (key_of a) (set_entry key_of a es) ≡ Some a → entry_of key_of (key_of a) (set_by o a e es (set_entry key_of a es)) ≡ Some a
      by Less p more = of_past (key_of a) e (set_entry key_of a es) (ap is_same p) ∙ more
      by Equal p more = of_here (key_of a) a es (key_itself (key_of a))
      by Greater p more = of_here (key_of a) a (e ∷ es) (key_itself (key_of a))

  -- ---- entries before a key, and after it

  abbrev pub AllBefore : Key → List A → Type 0
  AllBefore k [] = Unit {0}
  AllBefore k (e ∷ es) = (key_order (key_of e) k ≡ Less) × AllBefore k es

  -- the first isn't before the key, nor is it the key's
  abbrev pub Later : Key → List A → Type 0
  Later k [] = Unit {0}
  Later k (e ∷ es) = key_order (key_of e) k ≡ Greater

  front_set : (a : A) (front back : List A) → AllBefore (key_of a) front → set_entry key_of a (front ++ back) ≡ front ++ set_entry key_of a back
  front_set a [] back h = refl
  front_set a (e ∷ front) back h = set_past a e (front ++ back) h.0 ∙ ap (λ l. e ∷ l) (front_set a front back h.1)

  front_of : (k : Key) (front back : List A) → AllBefore k front → entry_of key_of k (front ++ back) ≡ entry_of key_of k back
  front_of k [] back h = refl
  front_of k (e ∷ front) back h = of_past k e (front ++ back) (ap is_same h.0) ∙ front_of k front back h.1

  front_without : (k : Key) (front back : List A) → AllBefore k front → without_entry key_of k (front ++ back) ≡ front ++ without_entry key_of k back
  front_without k [] back h = refl
  front_without k (e ∷ front) back h = without_past k e (front ++ back) (ap is_same h.0) ∙ ap (λ l. e ∷ l) (front_without k front back h.1)

  -- the next of later ones is later
  later_next : (k : Key) (e f : A) (es : List A) → key_order (key_of e) k ≡ Greater → ascending_from key_of e (f ∷ es) ≡ true → key_order (key_of f) k ≡ Greater
  later_next k e f es h d = turned k (key_of f) Less (key_transitive k (key_of e) (key_of f) (turned (key_of e) k Greater h) (next_later e f es d))

  later_of : (k : Key) (back : List A) → Later k back → ascending key_of back ≡ true → entry_of key_of k back ≡ None
  unfolding entry_of
  later_of k [] h d = refl
  later_of k (e ∷ []) h d = ap (λ o. cond (is_same o) (Some e) None) h
  later_of k (e ∷ f ∷ es) h d = of_past k e (f ∷ es) (ap is_same h) ∙ later_of k (f ∷ es) (later_next k e f es h d) (next_ascends e f es d)

  later_without : (k : Key) (back : List A) → Later k back → ascending key_of back ≡ true → without_entry key_of k back ≡ back
  unfolding without_entry
  later_without k [] h d = refl
  later_without k (e ∷ []) h d = ap (λ o. cond (is_same o) [] (e ∷ [])) h
  later_without k (e ∷ f ∷ es) h d =
      without_past k e (f ∷ es) (ap is_same h) ∙ ap (λ l. e ∷ l) (later_without k (f ∷ es) (later_next k e f es h d) (next_ascends e f es d))

  later_set : (a : A) (back : List A) → Later (key_of a) back → set_entry key_of a back ≡ a ∷ back
  unfolding set_entry
  later_set a [] h = refl
  later_set a (e ∷ es) h = set_ahead a e es h

  -- the entry that is found has the key
  pub found_key : (k : Key) (es : List A) (a : A) → entry_of key_of k es ≡ Some a → key_of a ≡ k
  unfolding entry_of
  found_key k [] a e = absurd (let z : ◌≡◌ {A = ℕ} 0 1 = cc in omega arith)
  found_key k (f ∷ es) a e = by (key_order (key_of f) k) refl e (found_key k es a)
    where
      by : (o : Ordering) → key_order (key_of f) k ≡ o → cond (is_same o) (Some f) (entry_of key_of k es) ≡ Some a → (entry_of key_of k es ≡ Some a → key_of a ≡ k) → key_of a ≡ k
      by Less p e more = more e
      by Equal p e more = let z : f ≡ a = cc in subst (λ x. key_of x ≡ k) z (key_equal (key_of f) k p)
      by Greater p e more = more e

  nothing_found : (k : Key) (a : A) → entry_of key_of k [] ≡ Some a → ⊥
  unfolding entry_of
  nothing_found k a e = let z : ◌≡◌ {A = ℕ} 0 1 = cc in omega arith

  -- an entry that is held, set again: nothing changes
  pub set_again : (a : A) (es : List A) → ascending key_of es ≡ true → entry_of key_of (key_of a) es ≡ Some a → set_entry key_of a es ≡ es
  set_again a [] d e = absurd (nothing_found (key_of a) a e)
  set_again a (f ∷ es) d e = by (key_order (key_of f) (key_of a)) refl (set_again a es (rest_ascends f es d))
    where
      by : (o : Ordering) → key_order (key_of f) (key_of a) ≡ o → (entry_of key_of (key_of a) es ≡ Some a → set_entry key_of a es ≡ es) → set_entry key_of a (f ∷ es) ≡ f ∷ es
      by Less p more = set_past a f es p ∙ ap (λ l. f ∷ l) (more (sym (of_past (key_of a) f es (ap is_same p)) ∙ e))
      by Equal p more =
          let q : Some f ≡ Some a = sym (of_here (key_of a) f es p) ∙ e in
          let z : f ≡ a = cc in
          set_here a f es p ∙ ap (λ x. x ∷ es) (sym z)
      by Greater p more =
          absurd (let q : None ≡ Some a = sym (later_of (key_of a) (f ∷ es) p d) ∙ e in let z : ◌≡◌ {A = ℕ} 0 1 = cc in omega arith)

-- ---- bytes with others in place of some

pub instead : (front mid back new : List ℕ) → front ++ (new ++ back) ≡ spliced (length front) (length mid) new (front ++ (mid ++ back))
instead front mid back new =
    ap₂ (λ x y. x ++ (new ++ y))
    (sym (take-append_seam front (mid ++ back)))
    (sym (drop-append-add front (mid ++ back) (length mid) ∙ drop-append_seam mid back))

module _ {A : Type 0} (form : Codec A) (key_of : A → Key) where
  pub encode_append : (a b : List A) → encode_entries form (a ++ b) ≡ encode_entries form a ++ encode_entries form b
  unfolding write_all
  encode_append [] b = refl
  encode_append (x ∷ a) b = ap (λ l. form.write x ++ l) (encode_append a b) ∙ sym (append_assoc (form.write x) (write_all form a) (write_all form b))

  encode_cons : (e : A) (es : List A) → encode_entries form (e ∷ es) ≡ form.write e ++ encode_entries form es
  unfolding write_all
  encode_cons e es = refl

  -- ---- where the entry of a key stands

  -- it is there: the entries before it, and those after
  pub record Held (k : Key) (at place : ℕ) (e : A) (es : List A) : Type 0 where
    pub front : List A
    pub back : List A
    pub split : es ≡ front ++ (e ∷ back)
    pub before : AllBefore key_of k front
    pub same : key_order (key_of e) k ≡ Equal
    pub place_is : place ≡ at + length (encode_entries form front)

  -- it isn't: the entries before its place, and those after
  pub record Free (k : Key) (at place : ℕ) (es : List A) : Type 0 where
    pub front : List A
    pub back : List A
    pub split : es ≡ front ++ back
    pub before : AllBefore key_of k front
    pub later : Later key_of k back
    pub place_is : place ≡ at + length (encode_entries form front)

  abbrev Sits : Key → ℕ → List A → Slot A → Type 0
  Sits k at es (held place e) = Held k at place e es
  Sits k at es (free place) = Free k at place es

  sits_past : (k : Key) (at : ℕ) (e : A) (es : List A) → key_order (key_of e) k ≡ Less → (s : Slot A) → Sits k (at + length (form.write e)) es s → Sits k at (e ∷ es) s
  unfolding write_all
  sits_past k at e es p (held place f) s = record {
    front = e ∷ s.front;
    back = s.back;
    split = ap (λ l. e ∷ l) s.split;
    before = (p, s.before);
    same = s.same;
    place_is = omega (arith, s.place_is, length-append (form.write e) (write_all form s.front));
  }
  sits_past k at e es p (free place) s = record {
    front = e ∷ s.front;
    back = s.back;
    split = ap (λ l. e ∷ l) s.split;
    before = (p, s.before);
    later = s.later;
    place_is = omega (arith, s.place_is, length-append (form.write e) (write_all form s.front));
  }

  sits : (k : Key) (at : ℕ) (es : List A) → Sits k at es (slot_in form key_of k at es)
  unfolding slot_in write_all
  sits k at [] = record { front = []; back = []; split = refl; before = tt; later = tt; place_is = omega arith }
  sits k at (e ∷ es) = by (key_order (key_of e) k) refl (sits k (at + length (form.write e)) es)
    where
      by : (o : Ordering) → key_order (key_of e) k ≡ o → Sits k (at + length (form.write e)) es (slot_in form key_of k (at + length (form.write e)) es)
          → Sits k at (e ∷ es) (slot_by o at e (slot_in form key_of k (at + length (form.write e)) es))
      by Less p more = sits_past k at e es p (slot_in form key_of k (at + length (form.write e)) es) more
      by Equal p more = record { front = []; back = es; split = refl; before = tt; same = p; place_is = omega arith }
      by Greater p more = record { front = []; back = e ∷ es; split = refl; before = tt; later = p; place_is = omega arith }

  -- a forward search that stops at the first later key says where the entry stands
  pub held_at : (k : Key) (es : List A) {place : ℕ} {e : A} → slot_in form key_of k 0 es ≡ held place e → Held k 0 place e es
  held_at k es q = subst (Sits k 0 es) q (sits k 0 es)

  pub free_at : (k : Key) (es : List A) {place : ℕ} → slot_in form key_of k 0 es ≡ free place → Free k 0 place es
  free_at k es q = subst (Sits k 0 es) q (sits k 0 es)

  module _ (k : Key) (es : List A) (place : ℕ) (e : A) (h : Held k 0 place e es) where
    pub held_entry : entry_of key_of k es ≡ Some e
    held_entry = ap (entry_of key_of k) h.split ∙ front_of key_of k h.front (e ∷ h.back) h.before ∙ of_here key_of k e h.back h.same

    pub held_key : key_of e ≡ k
    held_key = key_equal (key_of e) k h.same

    -- the bytes before the entry, its own, and those after
    pub whole : encode_entries form es ≡ encode_entries form h.front ++ (form.write e ++ encode_entries form h.back)
    whole = ap (encode_entries form) h.split ∙ encode_append h.front (e ∷ h.back) ∙ ap (λ l. encode_entries form h.front ++ l) (encode_cons e h.back)

    pub at_front : place ≡ length (encode_entries form h.front)
    at_front = omega (arith, h.place_is)

    -- others in place of the entry's bytes
    other : (new : List ℕ) → encode_entries form h.front ++ (new ++ encode_entries form h.back) ≡ spliced place (length (form.write e)) new (encode_entries form es)
    other new =
        instead (encode_entries form h.front) (form.write e) (encode_entries form h.back) new
        ∙ ap₂ (λ n l. spliced n (length (form.write e)) new l) (sym at_front) (sym whole)

    -- set: its bytes in the place of the old ones
    pub held_parts : (a : A) → key_of a ≡ k → encode_entries form (set_entry key_of a es) ≡ encode_entries form h.front ++ (form.write a ++ encode_entries form h.back)
    held_parts a q =
        let b : AllBefore key_of (key_of a) h.front = subst (λ l. AllBefore key_of l h.front) (sym q) h.before in
        let s : key_order (key_of e) (key_of a) ≡ Equal = ap (key_order (key_of e)) q ∙ h.same in
        ap (encode_entries form) (ap (set_entry key_of a) h.split ∙ front_set key_of a h.front (e ∷ h.back) b ∙ ap (λ l. h.front ++ l) (set_here key_of a e h.back s))
        ∙ encode_append h.front (a ∷ h.back) ∙ ap (λ l. encode_entries form h.front ++ l) (encode_cons a h.back)

    -- removed: its bytes cut out
    pub held_without : encode_entries form (without_entry key_of k es) ≡ spliced place (length (form.write e)) [] (encode_entries form es)
    held_without =
        ap (encode_entries form) (ap (without_entry key_of k) h.split ∙ front_without key_of k h.front (e ∷ h.back) h.before ∙ ap (λ l. h.front ++ l) (without_here key_of k e h.back h.same))
        ∙ encode_append h.front h.back ∙ other []

    pub held_within : place + length (form.write e) ≤ length (encode_entries form es)
    held_within = omega (arith, at_front, ap length whole, length-append (encode_entries form h.front) (form.write e ++ encode_entries form h.back), length-append (form.write e) (encode_entries form h.back))

  module _ (k : Key) (es : List A) (place : ℕ) (h : Free k 0 place es) (d : ascending key_of es ≡ true) where
    rest_up : ascending key_of h.back ≡ true
    rest_up = back_ascends key_of h.front h.back (sym (ap (ascending key_of) h.split) ∙ d)

    pub free_entry : entry_of key_of k es ≡ None
    free_entry = ap (entry_of key_of k) h.split ∙ front_of key_of k h.front h.back h.before ∙ later_of key_of k h.back h.later rest_up

    pub free_without : without_entry key_of k es ≡ es
    free_without =
        ap (without_entry key_of k) h.split ∙ front_without key_of k h.front h.back h.before ∙ ap (λ l. h.front ++ l) (later_without key_of k h.back h.later rest_up) ∙ sym h.split

    parted : encode_entries form es ≡ encode_entries form h.front ++ encode_entries form h.back
    parted = ap (encode_entries form) h.split ∙ encode_append h.front h.back

    at_end_lem : place ≡ length (encode_entries form h.front)
    at_end_lem = omega (arith, h.place_is)

    -- set: its bytes at its place, and the later ones moved
    pub free_set : (a : A) → key_of a ≡ k → encode_entries form (set_entry key_of a es) ≡ spliced place 0 (form.write a) (encode_entries form es)
    free_set a q =
        let b : AllBefore key_of (key_of a) h.front = subst (λ l. AllBefore key_of l h.front) (sym q) h.before in
        let s : Later key_of (key_of a) h.back = subst (λ l. Later key_of l h.back) (sym q) h.later in
        ap (encode_entries form) (ap (set_entry key_of a) h.split ∙ front_set key_of a h.front h.back b ∙ ap (λ l. h.front ++ l) (later_set key_of a h.back s))
        ∙ encode_append h.front (a ∷ h.back) ∙ ap (λ l. encode_entries form h.front ++ l) (encode_cons a h.back)
        ∙ instead (encode_entries form h.front) [] (encode_entries form h.back) (form.write a)
        ∙ ap₂ (λ n l. spliced n 0 (form.write a) l) (sym at_end_lem) (sym parted)

    pub free_within : place ≤ length (encode_entries form es)
    free_within = omega (arith, at_end_lem, ap length parted, length-append (encode_entries form h.front) (encode_entries form h.back))
