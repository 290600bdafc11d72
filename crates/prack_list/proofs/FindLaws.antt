-- The first entry of an RSeq in a body: the search, and the mark. Assumes nothing.
use Prim.Native.Nat.{ℕ, zero, suc, ◌+◌, ◌-◌, ◌*◌, ◌/◌, ◌≤◌, ◌<◌}
use native.Mathlib.Omega.{arith}
use mathlib.Core.Path.{◌≡◌, refl, sym, ap, ap₂, subst, ◌∙◌}
use mathlib.Core.Bool.{Bool, true, false, cond}
use mathlib.Core.List.{List, [], ◌∷◌, ◌++◌, append_assoc}
use lib.ListN.{length, take, drop, get_or, set, length-drop, length-append}
use lib.Seq.{drop-drop, drop-length, set_at}
use lib.Dec.{eqb}
use borrow.Author.Tests.{eq-eqb, ne_eqb, le-leb}
use Rattle.std.specs.Prelude.{Err, None, Ok, Option, Result, Some}
use Rattle.limits.specs.Limits.{LimitSet}
use Rattle.limits.specs.declared.Refusal.{Refusal}
use Rattle.limits.specs.declared.Refusal.TheVariants.{UnknownRSeq}
use Rattle.codec.specs.Codec.{write_all, four, eight}
use Rattle.prack_body.specs.Lists.{Pending, Tracked, first_of_rseq, marked, acknowledge, with_list}
use Rattle.prack_body.specs.Layout.{to_bit, pending_form, PendingFormed, AllFormed}
use Rattle.prack_body.specs.Body.{body_of, Holds}
use Rattle.prack_list.specs.Steps.{place_from, position_at, position_in}
use Rattle.prack_list.specs.declared.finding.PendingAt.{PendingAt}
use Rattle.prack_body.proofs.LayoutLaws.{entries_size}
use Rattle.prack_body.proofs.BodyLaws.{flag_at, method_at, rseq_at, cseq_at, whole, entries_lie, count_is, none_size, list_size, list_few, list_good, hold, formed_from}

-- ---- the entry of a turn

-- the entry of a number, where it lies, and those after it
pub record Next (s : List ℕ) (ps : List Pending) (i : ℕ) : Type 0 where
  pub entry : Pending
  pub more : List ℕ
  pub left : drop i ps ≡ entry ∷ drop (i + 1) ps
  pub formed : PendingFormed entry
  pub lies : drop (10 + i * 20) s ≡ pending_form.write entry ++ more

-- the entries from a number on
pub ahead : (s : List ℕ) (at i : ℕ) (ps : List Pending) (rest : List ℕ) → drop at s ≡ write_all pending_form ps ++ rest → i ≤ length ps → drop (at + i * 20) s ≡ write_all pending_form (drop i ps) ++ rest
unfolding write_all
ahead s at zero ps rest e h = let k : at + zero * 20 ≡ at = omega arith in ap (λ (j : ℕ). drop j s) k ∙ e
ahead s at (suc i) [] rest e h = absurd (omega arith)
ahead s at (suc i) (p ∷ ps) rest e h =
    let a : drop (at + 20) s ≡ write_all pending_form ps ++ rest = sym (drop-drop 20 at s) ∙ ap (drop 20) e in
    let k : at + suc i * 20 ≡ at + 20 + i * 20 = omega arith in
    ap (λ (j : ℕ). drop j s) k ∙ ahead s (at + 20) i ps rest a (omega arith)

-- the entry of a turn
pub next : (s : List ℕ) (i : ℕ) (ps : List Pending) (rest : List ℕ) → AllFormed ps → drop 10 s ≡ write_all pending_form ps ++ rest → i < length ps → Next s ps i
unfolding write_all
next s i ps rest g e h = by (drop i ps) refl
  where
    by : (l : List Pending) → drop i ps ≡ l → Next s ps i
    by [] q = absurd (omega (arith, ap length q, length-drop i ps))
    by (p ∷ l) q =
        let d : drop (i + 1) ps ≡ l = sym (drop-drop 1 i ps) ∙ ap (drop 1) q in
        let a = ahead s 10 i ps rest e (omega arith) in
        record {
          entry = p;
          more = write_all pending_form l ++ rest;
          left = q ∙ ap (λ (x : List Pending). p ∷ x) (sym d);
          formed = (subst AllFormed q (formed_from i ps g)).0;
          lies = a ∙ ap (λ (x : List Pending). write_all pending_form x ++ rest) q;
        }

-- the same of a body with a list
pub next_in : {L : LimitSet} {s : List ℕ} {n : ℕ} {t : Tracked} (h : Holds L s n t) (ps : List Pending) → t.list ≡ Some ps → (i : ℕ) → i < (n - 10) / 20 → Next s ps i
next_in {L} {s} {n} h ps e i l = next s i ps (drop n s) (list_good h ps e) (entries_lie h ps e) (omega (arith, count_is h ps e))

-- ---- the search

-- what the entries from a number on make of the search
abbrev pub From : ℕ → ℕ → List Pending → Result PendingAt Refusal
From r i ps = position_at (place_from (10 + i * 20) r (drop i ps)) (first_of_rseq r (drop i ps))

module _ (r : ℕ) {s : List ℕ} {ps : List Pending} {i : ℕ} (x : Next s ps i) where
  -- the first of those left has the RSeq
  pub found : x.entry.rseq ≡ r → From r i ps ≡ Ok (record { place = 10 + i * 20; cseq = x.entry.cseq; method = x.entry.method; acknowledged = x.entry.acknowledged })
  unfolding place_from first_of_rseq
  found e = rw (x.left, eq-eqb x.entry.rseq r e)

  -- or another
  pub further : (x.entry.rseq ≡ r → ⊥) → From r i ps ≡ From r (i + 1) ps
  unfolding place_from first_of_rseq
  further e =
      let k : 10 + i * 20 + 20 ≡ 10 + (i + 1) * 20 = omega arith in
      rw (x.left, ne_eqb x.entry.rseq r e, k)

flag_is : (b : Bool) → eqb (to_bit b) 1 ≡ b
flag_is true = refl
flag_is false = refl

-- the fields that are read of the entry that is found
module _ (r : ℕ) {s : List ℕ} {ps : List Pending} {i : ℕ} (x : Next s ps i) {at : ℕ} (k : at ≡ 10 + i * 20) {v : ℕ} {more : List ℕ} (e : four.read (drop at s) ≡ Some (record { value = v; rest = more })) where
  there : drop at s ≡ pending_form.write x.entry ++ x.more
  there = ap (λ (n : ℕ). drop n s) k ∙ x.lies

  same_rseq : v ≡ x.entry.rseq
  same_rseq = rseq_at s at x.entry x.more there x.formed e

  -- found, by what is read
  pub find_found : v ≡ r → {w : ℕ} {others : List ℕ} → four.read (drop (at + 4) s) ≡ Some (record { value = w; rest = others })
      → Ok (record { place = at; cseq = w; method = get_or s (at + 8) 0; acknowledged = eqb (get_or s (at + 11) 0) 1 }) ≡ From r i ps
  find_found q {w} f =
      let c : w ≡ x.entry.cseq = cseq_at s at x.entry x.more there x.formed f in
      let m : get_or s (at + 8) 0 ≡ x.entry.method = method_at s at x.entry x.more there in
      let b : eqb (get_or s (at + 11) 0) 1 ≡ x.entry.acknowledged = ap (λ (k : ℕ). eqb k 1) (flag_at s at x.entry x.more there) ∙ flag_is x.entry.acknowledged in
      rw (c, m, b, k) (sym (found r x (sym same_rseq ∙ q)))

  -- not yet
  pub find_further : (v ≡ r → ⊥) → From r i ps ≡ From r (i + 1) ps
  find_further q = further r x (λ z. q (same_rseq ∙ z))

-- none is left
pub nowhere : (r i : ℕ) (ps : List Pending) → i ≡ length ps → From r i ps ≡ Err UnknownRSeq
unfolding first_of_rseq
nowhere r i ps e = rw (e, drop-length ps)

module _ {L : LimitSet} {s : List ℕ} {n : ℕ} {t : Tracked} (h : Holds L s n t) (r : ℕ) where
  -- where a list stands
  pub find_in : 10 ≤ n → {p : Result PendingAt Refusal} → ((ps : List Pending) → t.list ≡ Some ps → p ≡ position_in r (Some ps)) → p ≡ position_in r t.list
  find_in l {p} f = by t.list refl
    where
      by : (o : Option (List Pending)) → t.list ≡ o → p ≡ position_in r t.list
      by None e = absurd (omega (arith, none_size h e))
      by (Some ps) e = f ps e ∙ ap (position_in r) (sym e)

-- ---- what an answer says

none_first : {p : Pending} → None ≡ Some p → ⊥
none_first e = let z : ◌≡◌ {A = ℕ} 0 1 = cc in omega arith

-- an entry was found: the list that has it, and its fields
pub record FoundIn (r : ℕ) (o : Option (List Pending)) (place cseq method : ℕ) (acknowledged : Bool) : Type 0 where
  pub list : List Pending
  pub entry : Pending
  pub stands : o ≡ Some list
  pub first : first_of_rseq r list ≡ Some entry
  pub at : place ≡ place_from 10 r list
  pub same_cseq : cseq ≡ entry.cseq
  pub same_method : method ≡ entry.method
  pub same_flag : acknowledged ≡ entry.acknowledged

-- an entry
pub position_found : (r : ℕ) (o : Option (List Pending)) {e : PendingAt} → Ok e ≡ position_in r o → FoundIn r o e.place e.cseq e.method e.acknowledged
position_found r None e = absurd (let z : ◌≡◌ {A = ℕ} 0 1 = cc in omega arith)
position_found r (Some ps) {e} q = by (first_of_rseq r ps) refl q
  where
    by : (f : Option Pending) → first_of_rseq r ps ≡ f → Ok e ≡ position_at (place_from 10 r ps) f → FoundIn r (Some ps) e.place e.cseq e.method e.acknowledged
    by None f q = absurd (let z : ◌≡◌ {A = ℕ} 0 1 = cc in omega arith)
    by (Some p) f q =
        let z : e ≡ record { place = place_from 10 r ps; cseq = p.cseq; method = p.method; acknowledged = p.acknowledged } = cc in
        record {
          list = ps;
          entry = p;
          stands = refl;
          first = f;
          at = ap (λ (x : PendingAt). x.place) z;
          same_cseq = ap (λ (x : PendingAt). x.cseq) z;
          same_method = ap (λ (x : PendingAt). x.method) z;
          same_flag = ap (λ (x : PendingAt). x.acknowledged) z;
        }

-- the place of the first entry of an RSeq lies among the entries
place_among : (r : ℕ) (ps : List Pending) (at : ℕ) (p : Pending) → first_of_rseq r ps ≡ Some p → place_from at r ps + 20 ≤ at + length ps * 20
unfolding first_of_rseq place_from
place_among r [] at p e = absurd (none_first e)
place_among r (q ∷ ps) at p e = by (eqb q.rseq r) refl (place_among r ps (at + 20) p)
  where
    by : (b : Bool) → eqb q.rseq r ≡ b → (first_of_rseq r ps ≡ Some p → place_from (at + 20) r ps + 20 ≤ at + 20 + length ps * 20) → cond (eqb q.rseq r) at (place_from (at + 20) r ps) + 20 ≤ at + suc (length ps) * 20
    by true b more = rw b (omega arith)
    by false b more = let f : first_of_rseq r ps ≡ Some p = (rw b at e) in rw b (omega (arith, more f))

-- and so within the body
pub place_inside : {L : LimitSet} {s : List ℕ} {n : ℕ} {t : Tracked} → Holds L s n t → (r : ℕ) (ps : List Pending) (p : Pending) → t.list ≡ Some ps → first_of_rseq r ps ≡ Some p → place_from 10 r ps + 20 ≤ n
place_inside h r ps p e f = omega (arith, place_among r ps 10 p f, list_size h ps e)

-- ---- the mark

-- the entries are formed when one is marked
pub marked_formed : (r : ℕ) (ps : List Pending) → AllFormed ps → AllFormed (marked r ps)
unfolding marked
marked_formed r [] g = tt
marked_formed r (p ∷ ps) g = by (eqb p.rseq r) (marked_formed r ps g.1)
  where
    by : (b : Bool) → AllFormed (marked r ps) → AllFormed (cond b (acknowledge p ∷ ps) (p ∷ marked r ps))
    by true k = (record { rseq_fits = g.0.rseq_fits; cseq_fits = g.0.cseq_fits; method_known = g.0.method_known; code_fits = g.0.code_fits; time_fits = g.0.time_fits }, g.1)
    by false k = (g.0, k)

-- and as many as before
pub marked_many : (r : ℕ) (ps : List Pending) → length (marked r ps) ≡ length ps
unfolding marked
marked_many r [] = refl
marked_many r (p ∷ ps) = by (eqb p.rseq r) (marked_many r ps)
  where
    by : (b : Bool) → length (marked r ps) ≡ length ps → length (cond b (acknowledge p ∷ ps) (p ∷ marked r ps)) ≡ suc (length ps)
    by true k = refl
    by false k = ap suc k

-- the flag of the first entry of an RSeq set: the bytes of the marked list
set_flag : (r : ℕ) (ps : List Pending) (front rest : List ℕ) (at : ℕ) (p : Pending) → length front ≡ at → first_of_rseq r ps ≡ Some p
    → set (front ++ (write_all pending_form ps ++ rest)) (place_from at r ps + 11) 1 ≡ front ++ (write_all pending_form (marked r ps) ++ rest)
unfolding first_of_rseq place_from marked write_all
set_flag r [] front rest at p l e = absurd (none_first e)
set_flag r (q ∷ ps) front rest at p l e = by (eqb q.rseq r) refl (set_flag r ps (front ++ pending_form.write q) rest (at + 20) p (omega (arith, length-append front (pending_form.write q))))
  where
    by : (b : Bool) → eqb q.rseq r ≡ b
        → (first_of_rseq r ps ≡ Some p → set ((front ++ pending_form.write q) ++ (write_all pending_form ps ++ rest)) (place_from (at + 20) r ps + 11) 1 ≡ (front ++ pending_form.write q) ++ (write_all pending_form (marked r ps) ++ rest))
        → set (front ++ ((pending_form.write q ++ write_all pending_form ps) ++ rest)) (cond (eqb q.rseq r) at (place_from (at + 20) r ps) + 11) 1 ≡ front ++ (write_all pending_form (cond (eqb q.rseq r) (acknowledge q ∷ ps) (q ∷ marked r ps)) ++ rest)
    by true b more =
        let z : length (front ++ take 11 (pending_form.write q)) ≡ at + 11 = omega (arith, length-append front (take 11 (pending_form.write q))) in
        rw b
        (ap (λ (x : List ℕ). set x (at + 11) 1) (sym (append_assoc front (take 11 (pending_form.write q)) (to_bit q.acknowledged ∷ (eight.write q.registered_at ++ (write_all pending_form ps ++ rest)))))
        ∙ set_at (front ++ take 11 (pending_form.write q)) (to_bit q.acknowledged) (eight.write q.registered_at ++ (write_all pending_form ps ++ rest)) 1 (at + 11) z
        ∙ append_assoc front (take 11 (pending_form.write q)) (1 ∷ (eight.write q.registered_at ++ (write_all pending_form ps ++ rest))))
    by false b more =
        let f : first_of_rseq r ps ≡ Some p = (rw b at e) in
        rw b
        (ap (λ (x : List ℕ). set x (place_from (at + 20) r ps + 11) 1) (sym (append_assoc front (pending_form.write q) (write_all pending_form ps ++ rest)))
        ∙ more f
        ∙ append_assoc front (pending_form.write q) (write_all pending_form (marked r ps) ++ rest))

-- what is held, with the first entry of an RSeq acknowledged
pub mark_law : {L : LimitSet} {s : List ℕ} {n : ℕ} {t : Tracked} → Holds L s n t → (r : ℕ) (ps : List Pending) (p : Pending) → t.list ≡ Some ps → first_of_rseq r ps ≡ Some p → {k : ℕ} → k ≡ place_from 10 r ps
    → Holds L (set s (k + 11) 1) n (with_list (Some (marked r ps)) t)
mark_law {L} {s} {n} {t} h r ps p e f {k} q =
    let w = whole h (Some ps) e in
    let m : length (marked r ps) ≡ length ps = marked_many r ps in
    let a : set s (k + 11) 1 ≡ (eight.write t.cleaned_at ++ (1 ∷ length ps ∷ [])) ++ (write_all pending_form (marked r ps) ++ drop n s) = ap₂ (λ (x : List ℕ) (i : ℕ). set x (i + 11) 1) w q ∙ set_flag r ps (eight.write t.cleaned_at ++ (1 ∷ length ps ∷ [])) (drop n s) 10 p refl f in
    let b : set s (k + 11) 1 ≡ body_of L (with_list (Some (marked r ps)) t) ++ drop n s = a ∙ ap (λ (i : ℕ). eight.write t.cleaned_at ++ (1 ∷ i ∷ (write_all pending_form (marked r ps) ++ drop n s))) (sym m) in
    let z : length (marked r ps) ≤ L.pending = omega (arith, list_few h ps e) in
    hold (drop n s)
    (record { id_short = h.formed.id_short; time_fits = h.formed.time_fits; list_formed = (marked_formed r ps (list_good h ps e), le-leb (length (marked r ps)) L.pending z) })
    b
    (omega (arith, list_size h ps e, entries_size (marked r ps)))
