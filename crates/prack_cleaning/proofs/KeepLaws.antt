-- Entries kept by a test, moved together in their array: one turn, and what a cleanup makes of what is held. Assumes nothing.
use Prim.Native.Nat.{ℕ, ◌+◌, ◌-◌, ◌*◌, ◌/◌, ◌≤◌, ◌<◌}
use native.Mathlib.Omega.{arith}
use mathlib.Core.Path.{◌≡◌, refl, sym, ap, ap₂, subst, ◌∙◌}
use mathlib.Core.Bool.{Bool, true, false, cond}
use mathlib.Core.List.{List, [], ◌∷◌, ◌++◌, append_assoc, append-nil}
use lib.ListN.{length, take, drop, set, length-append, take-append-drop}
use lib.Seq.{drop-drop}
use borrow.Author.Tests.{le-leb, lt-leb}
use Rattle.std.specs.Prelude.{None, Option, Some}
use Rattle.limits.specs.Limits.{LimitSet}
use Rattle.edit.specs.Edit.{put_at}
use Rattle.codec.specs.Codec.{write_all, eight}
use Rattle.prack_body.specs.Lists.{Pending, Tracked, nanoseconds, stays, staying, cleaned, cleaned_list, with_list}
use Rattle.prack_body.specs.Layout.{pending_form, PendingFormed, AllFormed, TrackedFormed}
use Rattle.prack_body.specs.Body.{body_of, Holds, Kept}
use Rattle.prack_cleaning.specs.KeptList.{kept_list}
use Rattle.prack_body.proofs.LayoutLaws.{entries_size}
use Rattle.edit.proofs.EditLaws.{drop_put}
use Rattle.prack_body.proofs.BytesLaws.{take_put, more_bytes}
use Rattle.prack_body.proofs.BodyLaws.{whole, count_is, none_size, list_few, list_good, entries_lie, hold, staying_formed, staying_short}

-- ---- the loop

-- so far: the entries before a place looked at, those that stayed lie together, and those left lie where they did
pub record Keeping (test : Pending → Bool) (s₀ rest : List ℕ) (ps : List Pending) (at kept : ℕ) (s : List ℕ) : Type 0 where
  pub left : List Pending
  pub stayed : List Pending
  pub all : stayed ++ staying test left ≡ staying test ps
  pub so_many : at + length left * 20 ≡ 10 + length ps * 20
  pub formed : AllFormed left
  pub ahead : drop at s ≡ write_all pending_form left ++ rest
  pub counts : kept ≡ length stayed
  pub are : take (10 + kept * 20) s ≡ take 10 s₀ ++ write_all pending_form stayed

module _ (test : Pending → Bool) (s₀ rest : List ℕ) (ps : List Pending) where
  -- before the first turn
  pub start : AllFormed ps → drop 10 s₀ ≡ write_all pending_form ps ++ rest → Keeping test s₀ rest ps 10 0 s₀
  unfolding write_all
  start g e = record { left = ps; stayed = []; all = refl; so_many = refl; formed = g; ahead = e; counts = refl; are = sym (append-nil (take 10 s₀)) }

  -- after the last
  pub done : {at kept : ℕ} {s : List ℕ} → Keeping test s₀ rest ps at kept s → at ≡ 10 + length ps * 20 → Kept s₀ (staying test ps) s kept
  unfolding staying
  done {at} {kept} {s} g e = by g.left refl
    where
      by : (l : List Pending) → g.left ≡ l → Kept s₀ (staying test ps) s kept
      by [] q =
          let a : g.stayed ≡ staying test ps = sym (append-nil g.stayed) ∙ ap (λ (l : List Pending). g.stayed ++ staying test l) (sym q) ∙ g.all in
          record { counts = g.counts ∙ ap length a; are = g.are ∙ ap (λ (l : List Pending). take 10 s₀ ++ write_all pending_form l) a }
      by (p ∷ l) q = absurd (omega (arith, g.so_many, ap length q))

  -- what the answer of the test is told for
  abbrev Told : ℕ → List ℕ → Bool → Type 0
  Told at s b = (p : Pending) (more : List ℕ) → PendingFormed p → take (at + 20 - at) (drop at s) ≡ pending_form.write p ++ more → b ≡ test p

  -- the bytes of an entry that lies at a place
  cut : (at : ℕ) (s : List ℕ) (p : Pending) {more : List ℕ} → drop at s ≡ pending_form.write p ++ more → take (at + 20 - at) (drop at s) ≡ pending_form.write p ++ []
  cut at s p e = let n : at + 20 - at ≡ 20 = omega arith in ap (λ m. take m (drop at s)) n ∙ ap (take 20) e ∙ sym (append-nil (pending_form.write p))

  module _ {at kept : ℕ} {s : List ℕ} (g : Keeping test s₀ rest ps at kept s) (h : at < 10 + length ps * 20) {b : Bool} (told : Told at s b) where
    -- one entry that doesn't stay
    pub passed : b ≡ false → Keeping test s₀ rest ps (at + 20) kept s
    unfolding staying write_all
    passed f = by g.left refl
      where
        by : (l : List Pending) → g.left ≡ l → Keeping test s₀ rest ps (at + 20) kept s
        by [] q = absurd (omega (arith, g.so_many, ap length q))
        by (p ∷ l) q =
            let good : AllFormed (p ∷ l) = subst AllFormed q g.formed in
            let a : drop at s ≡ pending_form.write p ++ (write_all pending_form l ++ rest) = g.ahead ∙ ap (λ (x : List Pending). write_all pending_form x ++ rest) q in
            let t : test p ≡ false = sym (told p [] good.0 (cut at s p a)) ∙ f in
            let w : g.stayed ++ cond (test p) (p ∷ staying test l) (staying test l) ≡ staying test ps = ap (λ (x : List Pending). g.stayed ++ staying test x) (sym q) ∙ g.all in
            record {
              left = l;
              stayed = g.stayed;
              all = ap (λ (x : Bool). g.stayed ++ cond x (p ∷ staying test l) (staying test l)) (sym t) ∙ w;
              so_many = omega (arith, g.so_many, ap length q);
              formed = good.1;
              ahead = sym (drop-drop 20 at s) ∙ ap (drop 20) a;
              counts = g.counts;
              are = g.are;
            }

    -- one that stays, moved to where it follows the others
    pub moved : b ≡ true → 10 + kept * 20 ≤ at → 10 + length ps * 20 ≤ length s → {s' : List ℕ} → s' ≡ put_at (10 + kept * 20) (take 20 (drop at s)) s → Keeping test s₀ rest ps (at + 20) (kept + 1) s'
    unfolding staying write_all
    moved f few room {s'} put = by g.left refl
      where
        by : (l : List Pending) → g.left ≡ l → Keeping test s₀ rest ps (at + 20) (kept + 1) s'
        by [] q = absurd (omega (arith, g.so_many, ap length q))
        by (p ∷ l) q =
            let good : AllFormed (p ∷ l) = subst AllFormed q g.formed in
            let a : drop at s ≡ pending_form.write p ++ (write_all pending_form l ++ rest) = g.ahead ∙ ap (λ (x : List Pending). write_all pending_form x ++ rest) q in
            let t : test p ≡ true = sym (told p [] good.0 (cut at s p a)) ∙ f in
            let j : 10 + (kept + 1) * 20 ≡ 10 + kept * 20 + 20 = omega arith in
            let w : g.stayed ++ cond (test p) (p ∷ staying test l) (staying test l) ≡ staying test ps = ap (λ (x : List Pending). g.stayed ++ staying test x) (sym q) ∙ g.all in
            let u : s' ≡ put_at (10 + kept * 20) (pending_form.write p) s = put ∙ ap (λ (x : List ℕ). put_at (10 + kept * 20) (take 20 x) s) a in
            record {
              left = l;
              stayed = g.stayed ++ (p ∷ []);
              all = append_assoc g.stayed (p ∷ []) (staying test l) ∙ ap (λ (x : Bool). g.stayed ++ cond x (p ∷ staying test l) (staying test l)) (sym t) ∙ w;
              so_many = omega (arith, g.so_many, ap length q);
              formed = good.1;
              ahead = ap (drop (at + 20)) u ∙ drop_put (10 + kept * 20) (at + 20) (pending_form.write p) s (omega arith) (omega (arith, g.so_many, ap length q)) ∙ sym (drop-drop 20 at s) ∙ ap (drop 20) a;
              counts = omega (arith, g.counts, length-append g.stayed (p ∷ []));
              are = ap₂ take j u ∙ take_put (10 + kept * 20) (pending_form.write p) s (omega (arith, g.so_many, ap length q)) ∙ ap (λ (x : List ℕ). x ++ pending_form.write p) g.are ∙ append_assoc (take 10 s₀) (write_all pending_form g.stayed) (pending_form.write p) ∙ ap (λ (x : List ℕ). take 10 s₀ ++ x) (sym (more_bytes g.stayed p));
            }

-- ---- what is held, with fewer entries

keeps_formed : (L : LimitSet) (test : Pending → Bool) (t : Tracked) (ps : List Pending) → TrackedFormed L t → AllFormed ps → length ps ≤ L.pending → TrackedFormed L (with_list (Some (staying test ps)) t)
keeps_formed L test t ps f g l = record {
  id_short = f.id_short;
  time_fits = f.time_fits;
  list_formed = (staying_formed test ps g, le-leb (length (staying test ps)) L.pending (omega (arith, staying_short test ps)));
}

module _ {L : LimitSet} {s : List ℕ} {n : ℕ} {t : Tracked} (h : Holds L s n t) (test : Pending → Bool) where
  -- the entries that stay, and their count
  pub kept_list_lem : 10 ≤ n → {k : ℕ} {o : List ℕ} → ((ps : List Pending) (rest : List ℕ) → AllFormed ps → (n - 10) / 20 ≡ length ps → drop 10 s ≡ write_all pending_form ps ++ rest → Kept s (staying test ps) o k)
      → Holds L (set o 9 k) (10 + k * 20) (with_list (kept_list test t.list) t)
  kept_list_lem l {k} {o} f = by t.list refl
    where
      by : (x : Option (List Pending)) → t.list ≡ x → Holds L (set o 9 k) (10 + k * 20) (with_list (kept_list test t.list) t)
      by None e = absurd (omega (arith, none_size h e))
      by (Some ps) e =
          let g = f ps (drop n s) (list_good h ps e) (count_is h ps e) (entries_lie h ps e) in
          let w = whole h (Some ps) e in
          let kps = staying test ps in
          let a : o ≡ (take 10 s ++ write_all pending_form kps) ++ drop (10 + k * 20) o = sym (take-append-drop (10 + k * 20) o) ∙ ap (λ (z : List ℕ). z ++ drop (10 + k * 20) o) g.are in
          let b : o ≡ eight.write t.cleaned_at ++ (1 ∷ length ps ∷ (write_all pending_form kps ++ drop (10 + k * 20) o)) = a ∙ ap (λ (z : List ℕ). (take 10 z ++ write_all pending_form kps) ++ drop (10 + k * 20) o) w in
          let d : set o 9 k ≡ body_of L (with_list (Some kps) t) ++ drop (10 + k * 20) o = ap (λ (z : List ℕ). set z 9 k) b ∙ ap (λ (z : ℕ). eight.write t.cleaned_at ++ (1 ∷ z ∷ (write_all pending_form kps ++ drop (10 + k * 20) o))) g.counts in
          subst (λ (x : Option (List Pending)). Holds L (set o 9 k) (10 + k * 20) (with_list (kept_list test x) t)) (sym e)
          (hold (drop (10 + k * 20) o) (keeps_formed L test t ps h.formed (list_good h ps e) (list_few h ps e)) d (omega (arith, g.counts, entries_size kps)))

-- ---- cleaning

young_list : (L : LimitSet) (time : ℕ) (o : Option (List Pending)) → kept_list (stays L time) o ≡ cleaned_list L time o
young_list L time None = refl
young_list L time (Some ps) = refl

module _ (L : LimitSet) (time : ℕ) (t : Tracked) where
  -- too soon
  pub not_due : time - t.cleaned_at < nanoseconds L.cleanup → cleaned L time t.id (Some t) ≡ t
  unfolding cleaned
  not_due h = rw (lt-leb (nanoseconds L.cleanup) (time - t.cleaned_at) h)

  -- so long after the last cleanup, or longer
  pub due : nanoseconds L.cleanup ≤ time - t.cleaned_at → cleaned L time t.id (Some t) ≡ record { id = t.id; cleaned_at = time; list = kept_list (stays L time) t.list }
  unfolding cleaned
  due h = rw (le-leb (nanoseconds L.cleanup) (time - t.cleaned_at) h, young_list L time t.list)
