-- A step of the code: why the layout of the RSeq store is what the search in a store of entries asks of one. A trait's law is given from here, so these proofs
-- stand beside the definitions. The form of an entry is exact: every well-formed entry is read back, and what is read is one. Assumes nothing.
use Prim.Native.Nat.{ℕ, ◌+◌, ◌<◌, ◌≤◌}
use native.Mathlib.Omega.{arith}
use mathlib.Core.Path.{◌≡◌, refl, sym, ap, ◌∙◌}
use mathlib.Core.Bool.{true}
use mathlib.Core.List.{List, ◌++◌, [], ◌∷◌, append_assoc}
use lib.ListN.{length, length-append, take, drop, length-drop}
use borrow.Author.Tests.{lt-ltb, ltb-true}
use Rattle.codec.specs.Codec.{Pair, four, text}
use Rattle.codec.proofs.CodecLaws.{Exact, then_exact, such_exact, mapped_exact, text_exact, four_exact}
use Rattle.rseq_entries.specs.Entries.{Entry, is_positive, parts, entry_from, parts_of, entry_form, WellFormed, key_of}
use lib.Seq.{drop-drop, take-append_seam, drop-append_seam}
use Rattle.ordered_store.specs.Layout.{Lawful}
use Rattle.codec.specs.Places.{text_end}
use Rattle.rseq_entries.specs.Places.{entry_at, key_at, Within, layout}

abbrev GoodText : List ℕ → Type 0
GoodText t = length t < 65536

abbrev GoodNumber : ℕ → Type 0
GoodNumber n = (n < 4294967296) × (is_positive n ≡ true)

abbrev GoodParts : Pair (List ℕ) (Pair (List ℕ) (Pair (List ℕ) ℕ)) → Type 0
GoodParts p = GoodText p.first × (GoodText p.second.first × (GoodText p.second.second.first × GoodNumber p.second.second.second))

parts_exact : Exact parts GoodParts
parts_exact = then_exact text_exact (then_exact text_exact (then_exact text_exact (such_exact four_exact is_positive)))

pub form_exact : Exact entry_form WellFormed
form_exact = mapped_exact parts_exact WellFormed entry_from parts_of there again
  where
    there : (e : Entry) → WellFormed e → (entry_from (parts_of e) ≡ e) × GoodParts (parts_of e)
    there e w = (refl, (w.call_short, (w.local_short, (w.remote_short, (w.fits, lt-ltb 0 e.number w.positive)))))

    again : (p : Pair (List ℕ) (Pair (List ℕ) (Pair (List ℕ) ℕ))) → GoodParts p → (parts_of (entry_from p) ≡ p) × WellFormed (entry_from p)
    again p g = (
      refl,
      record {
        call_short = g.0;
        local_short = g.1.0;
        remote_short = g.1.1.0;
        positive = ltb-true 0 p.second.second.second g.1.1.1.1;
        fits = g.1.1.1.0;
      },
    )

-- how many bytes an entry has: two length bytes for each text, and four for the number
pub entry_size_lem : (e : Entry) → length (entry_form.write e) ≡ 2 + length e.id.call_id + (2 + length e.id.local_tag) + (2 + length e.id.remote_tag) + 4
entry_size_lem e =
    let c = text.write e.id.call_id in
    let l = text.write e.id.local_tag in
    let r = text.write e.id.remote_tag in
    let n = four.write e.number in
    omega (arith, length-append c (l ++ (r ++ n)), length-append l (r ++ n), length-append r n)

pub filled : (e : Entry) → 0 < length (entry_form.write e)
filled e = omega (arith, entry_size_lem e)

-- ---- where the parts of an entry lie

-- a text lies past its length bytes, and what comes after it comes after
text_lies : (s : List ℕ) (at : ℕ) (t rest : List ℕ) → drop at s ≡ text.write t ++ rest → (take (length t) (drop (at + 2) s) ≡ t) × (drop (text_end at t) s ≡ rest)
text_lies s at t rest e =
    let h : drop (at + 2) s ≡ t ++ rest = sym (drop-drop 2 at s) ∙ ap (drop 2) e in (
      ap (take (length t)) h ∙ take-append_seam t rest,
      sym (drop-drop (length t) (at + 2) s) ∙ ap (drop (length t)) h ∙ drop-append_seam t rest,
    )

-- the texts of a key, each by another name
pub same_key : {a b c x y z : List ℕ} → x ≡ a → y ≡ b → z ≡ c → x ∷ y ∷ z ∷ [] ≡ a ∷ b ∷ c ∷ []
same_key p q r = rw (p, q, r)

pub ends : (at : ℕ) (e : Entry) → (entry_at at e).end ≡ at + length (entry_form.write e)
ends at e = omega (arith, entry_size_lem e)

-- the texts of an entry lie at their places
pub lies : (s : List ℕ) (at : ℕ) (e : Entry) (rest : List ℕ) → drop at s ≡ entry_form.write e ++ rest → (key_at s (entry_at at e) ≡ key_of e) × Within s (entry_at at e)
lies s at e rest starts =
    let c : List ℕ = e.id.call_id in
    let l : List ℕ = e.id.local_tag in
    let r : List ℕ = e.id.remote_tag in
    let n : List ℕ = four.write e.number in
    let x : List ℕ = text.write r ++ n in
    let y : List ℕ = text.write l ++ x in
    let f = text_lies s at c (y ++ rest) (starts ∙ append_assoc (text.write c) y rest) in
    let g = text_lies s (text_end at c) l (x ++ rest) (f.1 ∙ append_assoc (text.write l) x rest) in
    let k = text_lies s (text_end (text_end at c) l) r (n ++ rest) (g.1 ∙ append_assoc (text.write r) n rest) in
    let w : (entry_at at e).end ≤ length s = omega (arith, entry_size_lem e, ap length starts, length-append (entry_form.write e) rest, length-drop at s) in
    (same_key f.0 g.0 k.0, (omega (arith, w), omega (arith, w), omega (arith, w)))

pub lawful : Lawful layout
lawful = record { exact = form_exact; filled = filled; ends = ends; lies = lies }
