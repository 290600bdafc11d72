-- The body of what is held, in a small array: its parts, and what the steps make of them. Assumes nothing.
use Prim.Native.Nat.{ℕ, zero, suc, ◌+◌, ◌-◌, ◌*◌, ◌/◌, ◌≤◌, ◌<◌}
use native.Mathlib.Omega.{arith}
use mathlib.Core.Path.{◌≡◌, refl, sym, ap, ap₂, subst, ◌∙◌}
use mathlib.Core.Bool.{Bool, true, false, cond}
use mathlib.Core.List.{List, [], ◌∷◌, ◌++◌, append_assoc}
use lib.ListN.{length, take, drop, get_or, set, length-drop, length-append, take-append-drop}
use lib.Seq.{drop-drop, get_or-drop, take_at, drop_at, take_all, length-take-le}
use lib.Dec.{leb}
use borrow.Author.Tests.{leb-true, leb-false}
use Rattle.std.specs.Prelude.{None, Option, Some}
use Rattle.limits.specs.Limits.{LimitSet}
use Rattle.edit.specs.Edit.{put_at}
use Rattle.codec.specs.Codec.{Reading, four, text, write_all, eight}
use Rattle.codec.proofs.CodecLaws.{Bytes, bytes_drop, four_exact, eight_exact}
use Rattle.prack_body.specs.Lists.{Pending, Tracked, staying, cleaned}
use Rattle.prack_body.specs.Layout.{to_bit, pending_form, PendingFormed, AllFormed, ListFormed, list_form, tracked_form, TrackedFormed}
use Rattle.prack_body.specs.Places.{list_places, tracked_places}
use Rattle.prack_body.specs.Body.{most_pending, body_room, body_of, Holds, Stands}
use Rattle.prack_body.specs.declared.TrackedAt.{TrackedAt}
use Rattle.prack_body.proofs.LayoutLaws.{whole_exact, entries_size}

read_value : {A : Type 0} {a b : Reading A} → Some a ≡ Some b → a.value ≡ b.value
read_value {A} {a} {b} e = let q : a ≡ b = cc in ap (λ (x : Reading A). x.value) q

-- ---- the fields of an entry at a place

module _ (s : List ℕ) (at : ℕ) (p : Pending) (rest : List ℕ) (e : drop at s ≡ pending_form.write p ++ rest) where
  -- the byte of the flag
  pub flag_at : get_or s (at + 11) 0 ≡ to_bit p.acknowledged
  flag_at = sym (get_or-drop at s 11 0) ∙ ap (λ (l : List ℕ). get_or l 11 0) e

  -- the byte of the method
  pub method_at : get_or s (at + 8) 0 ≡ p.method
  method_at = sym (get_or-drop at s 8 0) ∙ ap (λ (l : List ℕ). get_or l 8 0) e

  module _ (f : PendingFormed p) {n : ℕ} {more : List ℕ} where
    -- the number that is read as RSeq, as CSeq and as time
    pub rseq_at : four.read (drop at s) ≡ Some (record { value = n; rest = more }) → n ≡ p.rseq
    rseq_at r =
        let k : four.read (drop at s) ≡ Some (record { value = p.rseq; rest = drop 4 (pending_form.write p ++ rest) }) = ap four.read e ∙ four_exact.round p.rseq f.rseq_fits (drop 4 (pending_form.write p ++ rest)) in
        read_value (sym r ∙ k)

    pub cseq_at : four.read (drop (at + 4) s) ≡ Some (record { value = n; rest = more }) → n ≡ p.cseq
    cseq_at r =
        let d : drop (at + 4) s ≡ four.write p.cseq ++ drop 8 (pending_form.write p ++ rest) = sym (drop-drop 4 at s) ∙ ap (drop 4) e in
        let k : four.read (drop (at + 4) s) ≡ Some (record { value = p.cseq; rest = drop 8 (pending_form.write p ++ rest) }) = ap four.read d ∙ four_exact.round p.cseq f.cseq_fits (drop 8 (pending_form.write p ++ rest)) in
        read_value (sym r ∙ k)

    pub time_at_lem : eight.read (drop (at + 12) s) ≡ Some (record { value = n; rest = more }) → n ≡ p.registered_at
    time_at_lem r =
        let d : drop (at + 12) s ≡ eight.write p.registered_at ++ rest = sym (drop-drop 12 at s) ∙ ap (drop 12) e in
        let k : eight.read (drop (at + 12) s) ≡ Some (record { value = p.registered_at; rest = rest }) = ap eight.read d ∙ eight_exact.round p.registered_at f.time_fits rest in
        read_value (sym r ∙ k)

-- ---- a body and its parts

-- the array behind its body is as it is
pub whole : {L : LimitSet} {bytes : List ℕ} {n : ℕ} {t : Tracked} → Holds L bytes n t → (o : Option (List Pending)) → t.list ≡ o → bytes ≡ (eight.write t.cleaned_at ++ (list_form L).write o) ++ drop n bytes
whole {L} {bytes} {n} {t} h o e = sym (take-append-drop n bytes) ∙ ap (λ (l : List ℕ). l ++ drop n bytes) h.are ∙ ap (λ (x : Option (List Pending)). (eight.write t.cleaned_at ++ (list_form L).write x) ++ drop n bytes) e

-- sizes: 9 without a list, and with it 10 and 20 for each entry
body_size : (o : Option (List Pending)) → ℕ
body_size None = 9
body_size (Some ps) = 10 + length ps * 20

size_is : (L : LimitSet) (time : ℕ) (o : Option (List Pending)) → length (eight.write time ++ (list_form L).write o) ≡ body_size o
unfolding body_size
size_is L time None = refl
size_is L time (Some ps) = omega (arith, entries_size ps)

module _ {L : LimitSet} {bytes : List ℕ} {n : ℕ} {t : Tracked} (h : Holds L bytes n t) where
  size_by : (o : Option (List Pending)) → t.list ≡ o → n ≡ body_size o
  size_by o e = h.long ∙ ap (λ (x : Option (List Pending)). length (eight.write t.cleaned_at ++ (list_form L).write x)) e ∙ size_is L t.cleaned_at o

  -- 9 bytes without a list
  pub none_size : t.list ≡ None → n ≡ 9
  unfolding body_size
  none_size e = size_by None e

  -- 10 and 20 for each entry with one
  pub list_size : (ps : List Pending) → t.list ≡ Some ps → n ≡ 10 + length ps * 20
  unfolding body_size
  list_size ps e = size_by (Some ps) e

  formed_by : (o : Option (List Pending)) → t.list ≡ o → ListFormed L o
  formed_by o e = subst (ListFormed L) e h.formed.list_formed

  -- no more entries than the set allows
  pub list_few : (ps : List Pending) → t.list ≡ Some ps → length ps ≤ L.pending
  list_few ps e = leb-true _ _ (formed_by (Some ps) e).1

  -- each of them formed
  pub list_good : (ps : List Pending) → t.list ≡ Some ps → AllFormed ps
  list_good ps e = (formed_by (Some ps) e).0

  -- a body has 9 bytes at least
  pub holds_long : 9 ≤ n
  holds_long = by t.list refl
    where
      by : (o : Option (List Pending)) → t.list ≡ o → 9 ≤ n
      by None e = omega (arith, none_size e)
      by (Some ps) e = omega (arith, list_size ps e)

  -- and its room at most
  pub holds_size : L.pending ≤ most_pending → (9 ≤ n) × (n ≤ body_room)
  holds_size few = by t.list refl
    where
      by : (o : Option (List Pending)) → t.list ≡ o → (9 ≤ n) × (n ≤ body_room)
      by None e = (holds_long, omega (arith, none_size e))
      by (Some ps) e = (holds_long, omega (arith, list_size ps e, list_few ps e))

  -- and the array has it
  pub holds_within : n ≤ length bytes
  holds_within = by (leb n (length bytes)) refl
    where
      by : (b : Bool) → leb n (length bytes) ≡ b → n ≤ length bytes
      by true e = leb-true _ _ e
      by false e =
          let l : length bytes < n = leb-false _ _ e in
          absurd (omega (arith, ap length (take_all n bytes (omega arith)), ap length h.are, h.long))

  -- the entries lie behind the first ten bytes
  pub entries_lie : (ps : List Pending) → t.list ≡ Some ps → drop 10 bytes ≡ write_all pending_form ps ++ drop n bytes
  entries_lie ps e = ap (drop 10) (whole h (Some ps) e)

  -- the count by the length
  pub count_is : (ps : List Pending) → t.list ≡ Some ps → (n - 10) / 20 ≡ length ps
  count_is ps e = omega (arith, list_size ps e)

  -- the time stands first
  pub cleaned_at_lem : {k : ℕ} {more : List ℕ} → eight.read bytes ≡ Some (record { value = k; rest = more }) → k ≡ t.cleaned_at
  cleaned_at_lem r =
      let k : eight.read bytes ≡ Some (record { value = t.cleaned_at; rest = (list_form L).write t.list ++ drop n bytes }) = ap eight.read (whole h t.list refl) ∙ eight_exact.round t.cleaned_at h.formed.time_fits ((list_form L).write t.list ++ drop n bytes) in
      read_value (sym r ∙ k)

-- an array of a body and other bytes holds what the body says
pub hold : {L : LimitSet} {bytes : List ℕ} {n : ℕ} {t : Tracked} (rest : List ℕ) → TrackedFormed L t → bytes ≡ body_of L t ++ rest → n ≡ length (body_of L t) → Holds L bytes n t
hold {L} {bytes} {n} {t} rest f e l = record { formed = f; long = l; are = ap (take n) e ∙ take_at (body_of L t) rest n (sym l) }

-- the body alone, without the bytes behind it
pub alone : {L : LimitSet} {bytes : List ℕ} {n : ℕ} {t : Tracked} → Holds L bytes n t → Holds L (take n bytes) (length (take n bytes)) t
alone {L} {bytes} {n} h = record { formed = h.formed; long = ap length h.are; are = take_all (length (take n bytes)) (take n bytes) (omega arith) ∙ h.are }

-- a body that is all of an array
pub all_of : {L : LimitSet} {bytes : List ℕ} {n : ℕ} {t : Tracked} → Holds L bytes n t → length bytes ≡ n → bytes ≡ body_of L t
all_of {L} {bytes} {n} h e = sym (take_all n bytes (omega (arith, e))) ∙ h.are

-- a body that was changed on its own, put back in front of the others
pub put_back : {L : LimitSet} {held mid : List ℕ} {n : ℕ} {t u : Tracked} (rest : List ℕ) → Holds L mid n u → Holds L held (length (take n mid)) t → length held ≡ length (take n mid) → take n (held ++ rest) ≡ body_of L t
put_back {L} {held} {mid} {n} rest h g e = take_at held rest n (e ∙ length-take-le n mid (holds_within h)) ∙ all_of g e

-- another time
pub retimed : {L : LimitSet} {bytes : List ℕ} {n : ℕ} {t : Tracked} (time : ℕ) → time < 18446744073709551616 → Holds L bytes n t → Holds L (put_at 0 (eight.write time) bytes) n (record { id = t.id; cleaned_at = time; list = t.list })
retimed {L} {bytes} {n} {t} time f h =
    hold (drop n bytes)
    (record { id_short = h.formed.id_short; time_fits = f; list_formed = h.formed.list_formed })
    (ap (λ (l : List ℕ). eight.write time ++ drop 8 l) (whole h t.list refl))
    h.long

-- ---- lists that lose entries

-- the entries from a number on are formed
pub formed_from : (i : ℕ) (ps : List Pending) → AllFormed ps → AllFormed (drop i ps)
formed_from zero ps g = g
formed_from (suc i) [] g = tt
formed_from (suc i) (p ∷ ps) g = formed_from i ps g.1

-- those that stay are formed
pub staying_formed : (test : Pending → Bool) (ps : List Pending) → AllFormed ps → AllFormed (staying test ps)
unfolding staying
staying_formed test [] g = tt
staying_formed test (p ∷ ps) g = by (test p) (staying_formed test ps g.1)
  where
    by : (b : Bool) → AllFormed (staying test ps) → AllFormed (cond b (p ∷ staying test ps) (staying test ps))
    by true k = (g.0, k)
    by false k = k

-- and no more than there were
pub staying_short : (test : Pending → Bool) (ps : List Pending) → length (staying test ps) ≤ length ps
unfolding staying
staying_short test [] = omega arith
staying_short test (p ∷ ps) = by (test p) (staying_short test ps)
  where
    by : (b : Bool) → length (staying test ps) ≤ length ps → length (cond b (p ∷ staying test ps) (staying test ps)) ≤ suc (length ps)
    by true k = omega arith
    by false k = omega arith

-- nothing held before: a time without a list
pub begun : (L : LimitSet) (time : ℕ) → time < 18446744073709551616 → (s : List ℕ) → 9 ≤ length s → {k : ℕ} {o : List ℕ} → k ≡ 8 → o ≡ put_at 0 (eight.write time) s → (id : List ℕ) → length id < 65536 → Holds L (set o k 0) (k + 1) (cleaned L time id None)
unfolding cleaned
begun L time f s h {k} {o} p q id l = by (drop 8 s) refl
  where
    by : (d : List ℕ) → drop 8 s ≡ d → Holds L (set o k 0) (k + 1) (record { id = id; cleaned_at = time; list = None })
    by [] e = absurd (omega (arith, ap length e, length-drop 8 s))
    by (x ∷ d) e = hold d (record { id_short = l; time_fits = f; list_formed = tt }) (ap₂ (λ (z : List ℕ) (i : ℕ). set z i 0) (q ∙ ap (λ (z : List ℕ). eight.write time ++ z) e) p) (omega arith)

-- ---- where the parts lie

end_is : (k : ℕ) (o : Option (List Pending)) → (list_places (k + 8) o).end ≡ k + body_size o
unfolding body_size
end_is k None = omega arith
end_is k (Some ps) = omega arith

-- a body has a byte for the list at least
body_some : (L : LimitSet) (time : ℕ) (o : Option (List Pending)) → 1 ≤ length (eight.write time ++ (list_form L).write o)
body_some L time None = omega arith
body_some L time (Some ps) = omega (arith, entries_size ps)

-- and its room at most
body_few : (L : LimitSet) (time : ℕ) (o : Option (List Pending)) → ListFormed L o → L.pending ≤ most_pending → length (eight.write time ++ (list_form L).write o) ≤ body_room
body_few L time None f few = omega arith
body_few L time (Some ps) f few = let k : length ps ≤ L.pending = leb-true _ _ f.1 in omega (arith, entries_size ps, few)

-- the places of what is held end where its bytes do
pub places_end : (L : LimitSet) (at : ℕ) (t : Tracked) → (tracked_places at t).end ≡ at + length ((tracked_form L).write t)
places_end L at t = omega (arith, end_is (at + 2 + length t.id) t.list, size_is L t.cleaned_at t.list, length-append t.id (body_of L t))

module _ (L : LimitSet) (s : List ℕ) (at : ℕ) (t : Tracked) (rest : List ℕ) (e : drop at s ≡ (tracked_form L).write t ++ rest) where
  -- the text lies past its two length bytes
  pub text_lies : take (length t.id) (drop (at + 2) s) ≡ t.id
  text_lies = ap (take (length t.id)) (sym (drop-drop 2 at s) ∙ ap (drop 2) e ∙ append_assoc t.id (body_of L t) rest) ∙ take_at t.id (body_of L t ++ rest) (length t.id) refl

  -- the body lies behind the text
  pub body_lies : drop (at + 2 + length t.id) s ≡ body_of L t ++ rest
  body_lies =
      let k : at + 2 + length t.id ≡ at + (2 + length t.id) = omega arith in
      ap (λ (i : ℕ). drop i s) k
      ∙ sym (drop-drop (2 + length t.id) at s)
      ∙ ap (drop (2 + length t.id)) (e ∙ append_assoc (text.write t.id) (body_of L t) rest)
      ∙ drop_at (text.write t.id) (body_of L t ++ rest) (2 + length t.id) (omega arith)

module _ (L : LimitSet) (s : List ℕ) (h : Bytes s) {p : TrackedAt} {t : Tracked} (g : Stands L s p t) where
  stood : (drop g.at s ≡ (tracked_form L).write t ++ g.rest) × TrackedFormed L t
  stood = let k = (whole_exact L).back (drop g.at s) (record { value = t; rest = g.rest }) (bytes_drop g.at s h) g.reads in (k.0, k.1.0)

  starts : p.id.start + p.id.length ≡ g.at + 2 + length t.id
  starts = ap (λ (q : TrackedAt). q.id.start + q.id.length) g.placed

  ends : p.end ≡ g.at + 2 + length t.id + length (body_of L t)
  ends = ap (λ (q : TrackedAt). q.end) g.placed ∙ end_is (g.at + 2 + length t.id) t.list ∙ ap (λ (k : ℕ). g.at + 2 + length t.id + k) (sym (size_is L t.cleaned_at t.list))

  lies : drop (p.id.start + p.id.length) s ≡ body_of L t ++ g.rest
  lies = ap (λ (i : ℕ). drop i s) starts ∙ body_lies L s g.at t g.rest stood.0

  -- the room that a body takes where it lies
  pub stands_inside : (p.id.start + p.id.length ≤ p.end) × ((p.end ≤ length s) × (L.pending ≤ most_pending → p.end - (p.id.start + p.id.length) ≤ body_room))
  stands_inside =
      let k : length (drop (p.id.start + p.id.length) s) ≡ length (body_of L t) + length g.rest = ap length lies ∙ length-append (body_of L t) g.rest in
      let l = length-drop (p.id.start + p.id.length) s in
      let m = body_some L t.cleaned_at t.list in
      (omega (arith, starts, ends), (omega (arith, starts, ends, k, l, m), λ few. omega (arith, starts, ends, body_few L t.cleaned_at t.list stood.1.list_formed few)))

  -- a body taken from where it lies
  pub loaded : (b : List ℕ) {o : List ℕ} → o ≡ put_at 0 (take (p.end - (p.id.start + p.id.length)) (drop (p.id.start + p.id.length) s)) b → Holds L o (p.end - (p.id.start + p.id.length)) t
  loaded b {o} e =
      let n : p.end - (p.id.start + p.id.length) ≡ length (body_of L t) = omega (arith, starts, ends) in
      let k : take (p.end - (p.id.start + p.id.length)) (drop (p.id.start + p.id.length) s) ≡ body_of L t = ap (take (p.end - (p.id.start + p.id.length))) lies ∙ take_at (body_of L t) g.rest (p.end - (p.id.start + p.id.length)) (sym n) in
      hold (drop (0 + length (body_of L t)) b) stood.1 (e ∙ ap (λ (l : List ℕ). put_at 0 l b) k) n
