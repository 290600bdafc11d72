-- One entry more in a body: room for it behind the others, the entry, and the count. Assumes nothing.
use Prim.Native.Nat.{ℕ, ◌+◌, ◌-◌, ◌*◌, ◌/◌, ◌≤◌, ◌<◌}
use native.Mathlib.Omega.{arith}
use mathlib.Core.Path.{◌≡◌, refl, sym, ap, subst, ◌∙◌}
use mathlib.Core.List.{List, [], ◌∷◌, ◌++◌, append_assoc, append-nil}
use lib.ListN.{length, take, drop, set, length-append, take-append-drop, drop_of_length-le}
use lib.Seq.{drop-drop, take_at}
use borrow.Author.Tests.{le-leb}
use Rattle.std.specs.Prelude.{None, Option, Some}
use Rattle.limits.specs.Limits.{LimitSet}
use Rattle.edit.specs.Edit.{put_at}
use Rattle.edit.proofs.EditLaws.{Wrote, wrote_then}
use Rattle.codec.specs.Codec.{two, four, write_all, eight}
use Rattle.prack_body.specs.Lists.{Pending, Tracked, entries_of, pushed, registered, pending_of}
use Rattle.prack_body.specs.Layout.{pending_form, list_form, PendingFormed, AllFormed}
use Rattle.prack_body.specs.Body.{most_pending, body_room, body_of, Holds, Kept}
use Rattle.prack_list.specs.Steps.{last_of}
use Rattle.prack_body.proofs.LayoutLaws.{entries_size}
use Rattle.prack_body.proofs.BodyLaws.{whole, count_is, none_size, list_size, list_few, list_good, entries_lie, hold, formed_from}
use Rattle.prack_body.proofs.BytesLaws.{take_put, more_bytes}

-- ---- lists

-- one more formed entry
pub more_formed : (ps : List Pending) (p : Pending) → AllFormed ps → PendingFormed p → AllFormed (ps ++ (p ∷ []))
more_formed [] p g f = (f, tt)
more_formed (q ∷ ps) p g f = (g.0, more_formed ps p g.1 f)

two_more : (d : List ℕ) → 2 ≤ length d → (x : ℕ) × ((y : ℕ) × ((z : List ℕ) × (d ≡ x ∷ y ∷ z)))
two_more [] h = absurd (omega arith)
two_more (x ∷ []) h = absurd (omega arith)
two_more (x ∷ y ∷ z) h = (x, (y, (z, refl)))

-- ---- room

module _ {L : LimitSet} {s : List ℕ} {n : ℕ} {t : Tracked} (h : Holds L s n t) where
  -- without a list there are no entries
  pub room_none : n < 10 → Kept s (last_of L (entries_of t.list)) s 0
  unfolding write_all
  room_none l = by t.list refl
    where
      by : (o : Option (List Pending)) → t.list ≡ o → Kept s (last_of L (entries_of t.list)) s 0
      by None e =
          subst (λ (o : Option (List Pending)). Kept s (last_of L (entries_of o)) s 0) (sym e)
          (subst (λ (l : List Pending). Kept s l s 0) (sym (drop_of_length-le [] (omega arith))) (record { counts = refl; are = sym (append-nil (take 10 s)) }))
      by (Some ps) e = absurd (omega (arith, list_size h ps e))

  -- fewer than the set allows: all of them
  pub room_some : 10 ≤ n → {k : ℕ} → k ≡ (n - 10) / 20 → k < L.pending → Kept s (last_of L (entries_of t.list)) s k
  room_some l {k} c f = by t.list refl
    where
      by : (o : Option (List Pending)) → t.list ≡ o → Kept s (last_of L (entries_of t.list)) s k
      by None e = absurd (omega (arith, none_size h e))
      by (Some ps) e =
          let m : k ≡ length ps = c ∙ count_is h ps e in
          let z : length ps + 1 - L.pending ≡ 0 = omega arith in
          let w = whole h (Some ps) e in
          let j : 10 + k * 20 ≡ n = omega (arith, list_size h ps e) in
          let v : take (10 + k * 20) s ≡ take 10 s ++ write_all pending_form ps = ap (λ (i : ℕ). take i s) j ∙ h.are ∙ ap (λ (o : Option (List Pending)). eight.write t.cleaned_at ++ (list_form L).write o) e ∙ sym (ap (λ (x : List ℕ). take 10 x ++ write_all pending_form ps) w) in
          subst (λ (o : Option (List Pending)). Kept s (last_of L (entries_of o)) s k) (sym e)
          (subst (λ (i : ℕ). Kept s (drop i ps) s k) (sym z) (record { counts = m; are = v }))

  -- as many as it allows: all but the first
  pub room_full : {k : ℕ} → k ≡ (n - 10) / 20 → L.pending ≤ k → (1 ≤ L.pending) × (L.pending ≤ most_pending) → {o : List ℕ} → body_room ≤ length s → o ≡ put_at 10 (take ((L.pending - 1) * 20) (drop 30 s)) s
      → Kept s (last_of L (entries_of t.list)) o (L.pending - 1)
  unfolding write_all
  room_full {k} c f few {o} r u = by t.list refl
    where
      list : (ps : List Pending) → length ps ≡ L.pending → drop 10 s ≡ write_all pending_form ps ++ drop n s → Kept s (drop 1 ps) o (L.pending - 1)
      list [] m e = absurd (omega (arith, few.0))
      list (p ∷ ps) m e =
          let i : length (write_all pending_form ps) ≡ (L.pending - 1) * 20 = omega (arith, entries_size ps) in
          let a : drop 30 s ≡ write_all pending_form ps ++ drop n s = sym (drop-drop 20 10 s) ∙ ap (drop 20) e in
          let b : take ((L.pending - 1) * 20) (drop 30 s) ≡ write_all pending_form ps = ap (take ((L.pending - 1) * 20)) a ∙ take_at (write_all pending_form ps) (drop n s) ((L.pending - 1) * 20) i in
          let d : take (10 + length (write_all pending_form ps)) o ≡ take 10 s ++ write_all pending_form ps = ap (take (10 + length (write_all pending_form ps))) (u ∙ ap (λ (x : List ℕ). put_at 10 x s) b) ∙ take_put 10 (write_all pending_form ps) s (omega (arith, few.1)) in
          record { counts = omega arith; are = ap (λ (j : ℕ). take (10 + j) o) (sym i) ∙ d }

      by : (x : Option (List Pending)) → t.list ≡ x → Kept s (last_of L (entries_of t.list)) o (L.pending - 1)
      by None e = absurd (omega (arith, none_size h e, few.0))
      by (Some ps) e =
          let m : length ps ≡ L.pending = omega (arith, count_is h ps e, list_few h ps e) in
          let z : length ps + 1 - L.pending ≡ 1 = omega arith in
          subst (λ (x : Option (List Pending)). Kept s (last_of L (entries_of x)) o (L.pending - 1)) (sym e)
          (subst (λ (i : ℕ). Kept s (drop i ps) o (L.pending - 1)) (sym z) (list ps m (entries_lie h ps e)))

  -- the first ten bytes: the time, and two more
  front : 10 ≤ length s → (x : ℕ) × ((y : ℕ) × (take 10 s ≡ eight.write t.cleaned_at ++ (x ∷ y ∷ [])))
  front l =
      let w = whole h t.list refl in
      let d : List ℕ = (list_form L).write t.list ++ drop n s in
      let v : s ≡ eight.write t.cleaned_at ++ d = w in
      let g = two_more d (omega (arith, ap length v, length-append (eight.write t.cleaned_at) d)) in
      (g.0, (g.1.0, ap (take 10) (v ∙ ap (λ (z : List ℕ). eight.write t.cleaned_at ++ z) g.1.1.1)))

  entries_good : AllFormed (entries_of t.list)
  entries_good = by t.list refl
    where
      by : (x : Option (List Pending)) → t.list ≡ x → AllFormed (entries_of t.list)
      by None e = subst (λ (x : Option (List Pending)). AllFormed (entries_of x)) (sym e) tt
      by (Some ps) e = subst (λ (x : Option (List Pending)). AllFormed (entries_of x)) (sym e) (list_good h ps e)

  -- the entry put behind the others, the list's byte and its count
  pub push_law : 10 ≤ length s → {o : List ℕ} {k : ℕ} → k < L.pending → 10 + k * 20 ≤ length o → Kept s (last_of L (entries_of t.list)) o k → (p : Pending) → PendingFormed p
      → {v : List ℕ} → v ≡ put_at (10 + k * 20) (pending_form.write p) o → {m : ℕ} → m ≡ 10 + k * 20 + 20 → Holds L (set (set v 8 1) 9 (k + 1)) m (registered L p t)
  unfolding pushed
  push_law l {o} {k} few room g p f {v} u {m} q =
      let ps : List Pending = last_of L (entries_of t.list) in
      let all : List Pending = ps ++ (p ∷ []) in
      let e = front l in
      let c : k + 1 ≡ length all = omega (arith, g.counts, length-append ps (p ∷ [])) in
      let rest : List ℕ = drop (10 + k * 20 + 20) v in
      let a : take (10 + k * 20 + 20) v ≡ take 10 s ++ write_all pending_form all = ap (take (10 + k * 20 + 20)) u ∙ take_put (10 + k * 20) (pending_form.write p) o room ∙ ap (λ (x : List ℕ). x ++ pending_form.write p) g.are ∙ append_assoc (take 10 s) (write_all pending_form ps) (pending_form.write p) ∙ ap (λ (x : List ℕ). take 10 s ++ x) (sym (more_bytes ps p)) in
      let b : v ≡ (eight.write t.cleaned_at ++ (e.0 ∷ e.1.0 ∷ [])) ++ (write_all pending_form all ++ rest) = sym (take-append-drop (10 + k * 20 + 20) v) ∙ ap (λ (x : List ℕ). x ++ rest) a ∙ append_assoc (take 10 s) (write_all pending_form all) rest ∙ ap (λ (x : List ℕ). x ++ (write_all pending_form all ++ rest)) e.1.1 in
      let d : set (set v 8 1) 9 (k + 1) ≡ body_of L (registered L p t) ++ rest = ap (λ (x : List ℕ). set (set x 8 1) 9 (k + 1)) b ∙ ap (λ (x : ℕ). eight.write t.cleaned_at ++ (1 ∷ x ∷ (write_all pending_form all ++ rest))) c in
      let z : length all ≤ L.pending = omega arith in
      hold rest
      (record { id_short = h.formed.id_short; time_fits = h.formed.time_fits; list_formed = (more_formed ps p (formed_from (length (entries_of t.list) + 1 - L.pending) (entries_of t.list) entries_good) f, le-leb (length all) L.pending z) })
      d
      (omega (arith, entries_size all))

-- ---- the entry's bytes

-- six pieces one after another are the entry
pub wrote_entry : (at rseq cseq method code time : ℕ) (out : List ℕ) → at ≤ length out → {a b d e f r : ℕ} {u v w x y z : List ℕ} → Wrote at (four.write rseq) out a u → Wrote a (four.write cseq) u b v → Wrote b (method ∷ []) v d w → Wrote d (two.write code) w e x → Wrote e (0 ∷ []) x f y → Wrote f (eight.write time) y r z
    → (r ≡ at + 20) × (z ≡ put_at at (pending_form.write (pending_of rseq cseq method code time)) out)
wrote_entry at rseq cseq method code time out h p q i j k l =
    let a : List ℕ = four.write rseq in
    let b : List ℕ = four.write cseq in
    let d : List ℕ = two.write code in
    let whole = wrote_then at (((((a ++ b) ++ (method ∷ [])) ++ d) ++ (0 ∷ []))) (eight.write time) out h
    (wrote_then at (((a ++ b) ++ (method ∷ [])) ++ d) (0 ∷ []) out h (wrote_then at ((a ++ b) ++ (method ∷ [])) d out h (wrote_then at (a ++ b) (method ∷ []) out h (wrote_then at a b out h p q) i) j) k) l in
    whole
