-- Fields that stand and fields that don't: their bytes and their sizes. Assumes nothing.
use Prim.Native.Nat.{ℕ, zero, suc, ◌+◌, ◌*◌, ◌≤◌, ◌<◌}
use native.Mathlib.Nat.{zero-add}
use native.Mathlib.Omega.{arith}
use mathlib.Core.Path.{◌≡◌, refl, ap, subst, ◌∙◌}
use mathlib.Core.List.{List, [], ◌∷◌, ◌++◌, append_assoc}
use lib.ListN.{length, length-append}
use lib.Dec.{ltb}
use borrow.Author.Tests.{lt-ltb, le-ltb}
use Rattle.std.specs.Prelude.{Err, None, Ok, Option, Some, MatchOption, IsSomeAnd}
use Rattle.codec.specs.Codec.{two, four, text}
use Rattle.headers.specs.declared.session_timer.Refresher.{Refresher}
use Rattle.headers.specs.declared.session_timer.Refresher.TheVariants as refresher
use Rattle.codec.proofs.SizeLaws.{text_size}
use Rattle.record.specs.Record.{Side, uac, uas, Numbers, Ids, Uris, bit_of, is_filled, is_given, id_text, number, optional, refresher_field, side_number}
use Rattle.record.specs.NumbersForm.{number_in, side_in}
use Rattle.edit.specs.Edit.{over}
use Rattle.edit.proofs.EditLaws.{Wrote, wrote_then}
use Rattle.limits.specs.declared.Refusal.TheVariants.{NoRoom}
use Rattle.output.specs.Output.{fitted, leaves, written_from}
use Rattle.image_writer.specs.Parts.{Front, ids_bytes, uris_bytes, numbers_bytes, map_of_front, state_byte_in, front_of, fitted_before}

-- ---- numbers

pub number_size : (n : ℕ) → length ((number (ltb 0 n)).write n) ≡ 4 * bit_of (ltb 0 n)
number_size zero = refl
number_size (suc n) = rw (lt-ltb 0 (suc n) (omega arith))

pub optional_size : (o : Option ℕ) → length ((optional (is_given o)).write o) ≡ 4 * bit_of (is_given o)
optional_size None = refl
optional_size (Some n) = refl

pub refresher_size : (o : Option Side) → length ((refresher_field (is_given o)).write o) ≡ 4 * bit_of (is_given o)
refresher_size None = refl
refresher_size (Some uac) = refl
refresher_size (Some uas) = refl

-- who refreshes, written as a number that may be absent, of which `Q` is what the closure of `map` says
pub side_as_number : {Q : Refresher → ℕ → Type 0} (r : Option Refresher) (n : Option ℕ) → MatchOption r (n ≡ None) (λ s. IsSomeAnd n (Q s)) → ((s : Refresher) (k : ℕ) → Q s k → k ≡ side_number (side_in (Some s)))
    → (optional (is_given (number_in n))).write (number_in n) ≡ (refresher_field (is_given (side_in r))).write (side_in r)
side_as_number None n e q = rw e
side_as_number (Some s) None h q = absurd h
side_as_number (Some refresher.Uac) (Some k) h q = ap (λ (j : ℕ). four.write j) (q refresher.Uac k h)
side_as_number (Some refresher.Uas) (Some k) h q = ap (λ (j : ℕ). four.write j) (q refresher.Uas k h)

-- ---- the sections' sizes

pub ids_size_lem : (i : Ids) → length (ids_bytes i) ≡ length ((id_text (is_filled i.first)).write i.first) + length ((id_text (is_filled i.second.first)).write i.second.first) + length ((id_text (is_filled i.second.second)).write i.second.second)
ids_size_lem i =
    let a = (id_text (is_filled i.first)).write i.first in
    let b = (id_text (is_filled i.second.first)).write i.second.first in
    let c = (id_text (is_filled i.second.second)).write i.second.second in
    omega (arith, length-append a (b ++ c), length-append b c)

pub uris_size_lem : (u : Uris) → length (uris_bytes u) ≡ 2 + length u.first + 2 + length u.second.first + 2 + length u.second.second
uris_size_lem u =
    let a = text.write u.first in
    let b = text.write u.second.first in
    let c = text.write u.second.second in
    omega (arith, length-append a (b ++ c), length-append b c, text_size u.first, text_size u.second.first, text_size u.second.second)

pub numbers_size_lem : (x : Numbers) → length (numbers_bytes x) ≡ 4 * (bit_of (ltb 0 x.local) + bit_of (ltb 0 x.remote) + bit_of (is_given x.last_ack) + bit_of (is_given x.seconds) + bit_of (is_given x.refresher))
numbers_size_lem x =
    let a = (number (ltb 0 x.local)).write x.local in
    let b = (number (ltb 0 x.remote)).write x.remote in
    let c = (optional (is_given x.last_ack)).write x.last_ack in
    let d = (optional (is_given x.seconds)).write x.seconds in
    let e = (refresher_field (is_given x.refresher)).write x.refresher in
    omega (arith, length-append a (b ++ (c ++ (d ++ e))), length-append b (c ++ (d ++ e)), length-append c (d ++ e), length-append d e, number_size x.local, number_size x.remote, optional_size x.last_ack, optional_size x.seconds, refresher_size x.refresher)

pub front_size : (f : Front) → length (front_of f) ≡ 2 + length (ids_bytes f.ids) + 1 + length (uris_bytes f.uris) + length (numbers_bytes f.numbers)
unfolding front_of
front_size f =
    let a = ids_bytes f.ids in
    let b = uris_bytes f.uris in
    let c = numbers_bytes f.numbers in
    omega (arith, length-append a ((state_byte_in f ∷ []) ++ (b ++ c)), length-append b c)

-- ---- the sections and the front, written one after another

module _ (at : ℕ) (a b c d e bytes : List ℕ) {k l m n o : ℕ} {v w x y z : List ℕ} (h : at ≤ length bytes) where
  pub wrote_five : Wrote at a bytes k v → Wrote k b v l w → Wrote l c w m x → Wrote m d x n y → Wrote n e y o z → Wrote at (a ++ (b ++ (c ++ (d ++ e)))) bytes o z
  wrote_five p q r s t =
      let all : Wrote at ((((a ++ b) ++ c) ++ d) ++ e) bytes o z =
      wrote_then at (((a ++ b) ++ c) ++ d) e bytes h
      (wrote_then at ((a ++ b) ++ c) d bytes h (wrote_then at (a ++ b) c bytes h (wrote_then at a b bytes h p q) r) s)
      t in
      let same : (((a ++ b) ++ c) ++ d) ++ e ≡ a ++ (b ++ (c ++ (d ++ e))) = simp append_assoc in
      subst (λ (u : List ℕ). Wrote at u bytes o z) same all

-- the whole front over the front of the bytes
pub front_written : (f : Front) (bytes : List ℕ) {n : ℕ} {after : List ℕ}
    → Wrote 0 (two.write (map_of_front f) ++ (ids_bytes f.ids ++ ((state_byte_in f ∷ []) ++ (uris_bytes f.uris ++ numbers_bytes f.numbers)))) bytes n after
    → after ≡ over (front_of f) bytes
unfolding front_of
front_written f bytes w = w.1 ∙ rw (zero-add (length (front_of f)))

-- ---- 18 only where the image is larger

module _ (s bytes : List ℕ) where
  pub refused_large : length bytes < length s → (Err NoRoom ≡ written_from (fitted (length bytes) s)) × (bytes ≡ leaves (fitted (length bytes) s) bytes)
  refused_large h = rw (lt-ltb (length bytes) (length s) h) (refl, refl)

  pub accepted : {n : ℕ} {after : List ℕ} → length s ≤ length bytes → n ≡ length s → after ≡ over s bytes
      → (Ok n ≡ written_from (fitted (length bytes) s)) × (after ≡ leaves (fitted (length bytes) s) bytes)
  accepted h e q = rw (le-ltb (length bytes) (length s) h) (ap Ok e, q)

-- the same of a text with so many bytes after it
module _ (more : ℕ) (s bytes : List ℕ) where
  pub refused_before : length bytes < length s + more → (Err NoRoom ≡ written_from (fitted_before more (length bytes) s)) × (bytes ≡ leaves (fitted_before more (length bytes) s) bytes)
  refused_before h = rw (lt-ltb (length bytes) (length s + more) h) (refl, refl)

  pub accepted_before : {n : ℕ} {after : List ℕ} → length s + more ≤ length bytes → n ≡ length s → after ≡ over s bytes
      → (Ok n ≡ written_from (fitted_before more (length bytes) s)) × (after ≡ leaves (fitted_before more (length bytes) s) bytes)
  accepted_before h e q = rw (le-ltb (length bytes) (length s + more) h) (ap Ok e, q)
