-- The records of a store from a place on, one after another. Assumes nothing.
use Prim.Native.Nat.{ℕ, ◌+◌, ◌≤◌, ◌<◌}
use native.Mathlib.Omega.{arith}
use mathlib.Core.Path.{◌≡◌, refl, sym, ap, ◌∙◌}
use mathlib.Core.List.{List, [], ◌∷◌, ◌++◌, append_assoc, append-nil}
use lib.ListN.{length, take, drop, length-append, length-drop, take-append-drop}
use lib.Seq.{length-take-le, drop-append_seam, drop-drop}
use Rattle.std.specs.Prelude.{Some}
use Rattle.codec.specs.Codec.{write_all}
use Rattle.record.specs.Record.{Record, WellFormed, image}
use Rattle.codec.proofs.CodecLaws.{Bytes, bytes_take}
use Rattle.record.proofs.StoreLaws.{EachFormed, decoded}
use Rattle.record.proofs.WellFormedLaws.{image_round}
use Rattle.image.specs.Places.{record_places}
use Rattle.image.proofs.SizeLaws.{record_size, record_sized}
use Rattle.record.specs.Store.{decode_all}
use Rattle.book.specs.Book.{Book, records_image, records_size}

-- how long an image is
written_size : (r : Record) → WellFormed r → length (image.write r) ≡ record_size r
written_size r w =
    let k = record_sized.ends (image.write r ++ []) (record { value = r; rest = [] }) (image_round r w []) in
    omega (arith, k.1, ap length (append-nil (image.write r)), length-drop (record_size r) (image.write r ++ []), ap length k.0)

-- the bytes from `at` to the end of the used ones are the images of these records
pub record Ahead (s : List ℕ) (used at : ℕ) (rest : Book) : Type 0 where
  pub formed : EachFormed rest
  pub left : at + records_size rest ≡ used
  pub images : drop at s ≡ records_image rest ++ drop used s

-- all records of a store
pub all_ahead : (s : List ℕ) (used : ℕ) (b : Book) → Bytes s → used ≤ length s → decode_all (take used s) ≡ Some b → Ahead s used 0 b
all_ahead s used b hb h e =
    let d = decoded (take used s) b (bytes_take used s hb) e in
    record { formed = d.1; left = omega (arith, ap length d.0, length-take-le used s h); images = sym (take-append-drop used s) ∙ ap (λ (t : List ℕ). t ++ drop used s) d.0 }

-- the first of them, read at the place, and those after it
pub record Front (s : List ℕ) (used at : ℕ) (rest : Book) : Type 0 where
  pub value : Record
  pub more : Book
  pub split : rest ≡ value ∷ more
  pub starts : drop at s ≡ image.write value ++ drop (record_places at value).end s
  pub reads : image.read (drop at s) ≡ Some (record { value = value; rest = drop (record_places at value).end s })
  pub ends : (record_places at value).end ≡ at + length (image.write value)
  pub moves : at < (record_places at value).end
  pub fits : (record_places at value).end ≤ used
  pub next : Ahead s used (record_places at value).end more

pub front : (s : List ℕ) (used at : ℕ) (rest : Book) → Ahead s used at rest → at < used → Front s used at rest
unfolding write_all
front s used at [] g h = absurd (let z : at + 0 ≡ used = g.left in omega (arith, h, z))
front s used at (x ∷ more) g h =
    let i : List ℕ = image.write x in
    let after : List ℕ = records_image more ++ drop used s in
    let d : drop at s ≡ i ++ after = g.images ∙ append_assoc i (records_image more) (drop used s) in
    let z : length i ≡ record_size x = written_size x g.formed.0 in
    let l : at + (length i + records_size more) ≡ used = ap (λ (n : ℕ). at + n) (sym (length-append i (records_image more))) ∙ g.left in
    let k : (record_places at x).end ≡ at + length i = omega (arith, z) in
    let n : drop (record_places at x).end s ≡ after = ap (λ (m : ℕ). drop m s) k ∙ (sym (drop-drop (length i) at s) ∙ (ap (drop (length i)) d ∙ drop-append_seam i after)) in
    record {
      value = x;
      more = more;
      split = refl;
      starts = d ∙ ap (λ (t : List ℕ). i ++ t) (sym n);
      reads = ap image.read d ∙ (image_round x g.formed.0 after ∙ ap (λ (t : List ℕ). Some (record { value = x; rest = t })) (sym n));
      ends = k;
      moves = omega (arith, z, k);
      fits = omega (arith, k, l);
      next = record { formed = g.formed.1; left = omega (arith, k, l); images = n };
    }

-- none
pub none_ahead : (s : List ℕ) (used at : ℕ) (rest : Book) → Ahead s used at rest → used ≤ at → rest ≡ []
unfolding write_all
none_ahead s used at [] g h = refl
none_ahead s used at (x ∷ more) g h = absurd (omega (arith, h, g.left, length-append (image.write x) (records_image more), written_size x g.formed.0))
