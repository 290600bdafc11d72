-- What a change of the book is on its bytes: one image replaced, cut out or added, and the others moved. Assumes nothing.
use Prim.Native.Nat.{ℕ, ◌+◌}
use mathlib.Core.Path.{◌≡◌, refl, sym, ap, ap₂, subst, ◌∙◌}
use mathlib.Core.Logic.{◌≢◌}
use mathlib.Core.Bool.{Bool, true, false}
use mathlib.Core.List.{List, [], ◌∷◌, ◌++◌, append_assoc, append-nil}
use lib.ListN.{length, take, drop}
use lib.Seq.{take-append_seam, drop-append_seam, drop-append-add}
use Rattle.std.specs.Prelude.{None, Some}
use Rattle.edit.specs.Edit.{spliced}
use Rattle.codec.specs.Codec.{write_all}
use Rattle.record.specs.Record.{Record, image}
use Rattle.dialog_id.specs.Ident.{Ident}
use Rattle.book.specs.Book.{Book, records_image, ident_of, find, place, amend, Staying, others, stays, keep}
use Rattle.book.proofs.IdentLaws.{id_cases}
use Rattle.book.proofs.BookLaws.{some_is, no_record, not_none, find_here, find_there, place_here, place_there, amend_here, amend_there, keep_here, keep_there, others_here, others_all}
use Rattle.book.proofs.SentenceLaws.{new_last}

-- ---- where a record stands in the book

pub record Stands (i : Ident) (r : Record) (b : Book) : Type 0 where
  pub front : Book
  pub back : Book
  pub split : b ≡ front ++ (r ∷ back)
  pub first : find i front ≡ None
  pub ident_is : ident_of r ≡ i

pub stands : (i : Ident) (r : Record) (b : Book) → find i b ≡ Some r → Stands i r b
stands i r [] h = no_record h
stands i r (x ∷ b) h =
    id_cases i x
    (λ e. let z : x ≡ r = some_is (sym (find_here i x b e) ∙ h) in
    record { front = []; back = b; split = ap (λ y. y ∷ b) z; first = refl; ident_is = sym (ap ident_of z) ∙ e })
    (λ n. deeper n (stands i r b (sym (find_there i x b n) ∙ h)))
  where
    deeper : ident_of x ≢ i → Stands i r b → Stands i r (x ∷ b)
    deeper n s = record { front = x ∷ s.front; back = s.back; split = ap (λ l. x ∷ l) s.split; first = find_there i x s.front n ∙ s.first; ident_is = s.ident_is }

-- a record in front has another identifier
apart : (i : Ident) (x : Record) (b : Book) → find i (x ∷ b) ≡ None → ident_of x ≢ i
apart i x b h e = not_none (sym (find_here i x b e) ∙ h)

rest : (i : Ident) (x : Record) (b : Book) → find i (x ∷ b) ≡ None → find i b ≡ None
rest i x b h = sym (find_there i x b (apart i x b h)) ∙ h

pub amend_at : (now was : Record) (front back : Book) → ident_of was ≡ ident_of now → find (ident_of now) front ≡ None → amend now (front ++ (was ∷ back)) ≡ front ++ (now ∷ back)
amend_at now was [] back e h = amend_here now was back e
amend_at now was (x ∷ front) back e h =
    amend_there now x (front ++ (was ∷ back)) (apart (ident_of now) x front h) ∙ ap (λ l. x ∷ l) (amend_at now was front back e (rest (ident_of now) x front h))

-- a put over a held record is a change in its place
pub place_held : (now was : Record) (b : Book) → find (ident_of now) b ≡ Some was → place now b ≡ amend now b
place_held now was [] h = no_record h
place_held now was (x ∷ b) h =
    id_cases (ident_of now) x
    (λ e. place_here now x b e ∙ sym (amend_here now x b e))
    (λ n. place_there now x b n ∙ (ap (λ l. x ∷ l) (place_held now was b (sym (find_there (ident_of now) x b n) ∙ h)) ∙ sym (amend_there now x b n)))

pub keep_append : (k : Staying) (a b : Book) → keep k (a ++ b) ≡ keep k a ++ keep k b
keep_append k [] b = refl
keep_append k (x ∷ a) b = by (keep_append k a b) (stays k x) refl
  where
    by : keep k (a ++ b) ≡ keep k a ++ keep k b → (t : Bool) → stays k x ≡ t → keep k (x ∷ (a ++ b)) ≡ keep k (x ∷ a) ++ keep k b
    by ih true e = keep_here k x (a ++ b) e ∙ (ap (λ l. x ∷ l) ih ∙ ap (λ l. l ++ keep k b) (sym (keep_here k x a e)))
    by ih false e = keep_there k x (a ++ b) e ∙ (ih ∙ ap (λ l. l ++ keep k b) (sym (keep_there k x a e)))

-- ---- its bytes

pub images_append : (a b : Book) → records_image (a ++ b) ≡ records_image a ++ records_image b
unfolding write_all
images_append [] b = refl
images_append (x ∷ a) b = ap (λ l. image.write x ++ l) (images_append a b) ∙ sym (append_assoc (image.write x) (records_image a) (records_image b))

module _ (i : Ident) (was : Record) (b : Book) (s : Stands i was b) where
  whole : records_image b ≡ records_image s.front ++ (image.write was ++ records_image s.back)
  unfolding write_all
  whole = ap records_image s.split ∙ images_append s.front (was ∷ s.back)

  -- the bytes with others in place of the record's image
  instead : (new : List ℕ) → records_image s.front ++ (new ++ records_image s.back) ≡ spliced (length (records_image s.front)) (length (image.write was)) new (records_image b)
  instead new =
      let f : List ℕ = records_image s.front in
      let w : List ℕ = image.write was in
      let k : List ℕ = records_image s.back in
      ap₂ (λ x y. x ++ (new ++ y))
      (sym (ap (take (length f)) whole ∙ take-append_seam f (w ++ k)))
      (sym (ap (drop (length f + length w)) whole ∙ (drop-append-add f (w ++ k) (length w) ∙ drop-append_seam w k)))

  -- a changed record: its image for the old one, at its place
  pub amend_bytes : (now : Record) → ident_of now ≡ i → records_image (amend now b) ≡ spliced (length (records_image s.front)) (length (image.write was)) (image.write now) (records_image b)
  unfolding write_all
  amend_bytes now e =
      ap records_image (ap (amend now) s.split ∙ amend_at now was s.front s.back (s.ident_is ∙ sym e) (subst (λ j. find j s.front ≡ None) (sym e) s.first))
      ∙ (images_append s.front (now ∷ s.back) ∙ instead (image.write now))

  -- a record that goes: its image cut out
  pub removed_bytes : find i s.back ≡ None → records_image (keep (others i) b) ≡ spliced (length (records_image s.front)) (length (image.write was)) [] (records_image b)
  removed_bytes h =
      let e : keep (others i) b ≡ s.front ++ s.back =
      ap (keep (others i)) s.split
      ∙ (keep_append (others i) s.front (was ∷ s.back)
      ∙ ap₂ (λ x y. x ++ y) (others_all i s.front s.first) (keep_there (others i) was s.back (others_here i was s.ident_is) ∙ others_all i s.back h)) in
      ap records_image e ∙ (images_append s.front s.back ∙ instead [])

-- a new record: its image after all others
pub new_bytes : (r : Record) (b : Book) → find (ident_of r) b ≡ None → records_image (place r b) ≡ records_image b ++ image.write r
unfolding write_all
new_bytes r b h = ap records_image (new_last r b h) ∙ (images_append b (r ∷ []) ∙ ap (λ l. records_image b ++ l) (append-nil (image.write r)))
