-- A termination never gets 18: a record whose state alone changes keeps the length of its image, and so the store its size. Assumes nothing.
use Prim.Native.Nat.{ℕ, ◌≤◌}
use native.Mathlib.Omega.{arith}
use mathlib.Core.Path.{◌≡◌, refl, sym, ap, ◌∙◌}
use mathlib.Core.Logic.{◌≢◌}
use mathlib.Core.Bool.{Bool, false}
use mathlib.Core.List.{[], ◌∷◌}
use lib.ListN.{length, length-append}
use lib.Dec.{ltb}
use borrow.Author.Tests.{le-ltb}
use Rattle.limits.specs.declared.Refusal.{Refusal}
use Rattle.std.specs.Prelude.{Err, None, Ok, Option, Result, Some}
use Rattle.limits.specs.Limits.{LimitSet}
use Rattle.limits.specs.Outcome.{refuse_if, and_then}
use Rattle.limits.specs.declared.Refusal.TheVariants.{NotFound, NoRoom}
use Rattle.codec.specs.Codec.{write_all}
use Rattle.record.specs.Record.{State, Record, map_of, image}
use Rattle.record.specs.Changes.{with_numbers}
use Rattle.record.specs.Rules.{with_state}
use Rattle.dialog_rules.specs.Updates.{terminate_update}
use Rattle.dialog_id.specs.Ident.{Ident}
use Rattle.book.specs.Calls.{no_value, terminate, update}
use Rattle.book.specs.Book.{Book, Contents, records_size, size, ident_of, find, amend, alter, Taken, revised, judge, fitting}
use Rattle.book.proofs.IdentLaws.{id_cases}
use Rattle.book.proofs.BookLaws.{some_is, find_here, find_there, find_ident, amend_here, amend_there}
use Rattle.book.proofs.JudgeLaws.{update_unheld, update_held}

-- the state is one byte, whichever it is
pub state_length : (s : State) (r : Record) → length (image.write (with_numbers (with_state s r.numbers) r)) ≡ length (image.write r)
unfolding map_of
state_length s r = simp length-append

-- a record as long as the old one, in its place
amend_size : (i : Ident) (r new : Record) (b : Book) → ident_of new ≡ i → length (image.write new) ≡ length (image.write r) → find i b ≡ Some r → records_size (amend new b) ≡ records_size b
unfolding write_all
amend_size i r new [] e l h = refl
amend_size i r new (x ∷ b) e l h =
    id_cases i x
    (λ k. let q : x ≡ r = some_is (sym (find_here i x b k) ∙ h) in
    ap records_size (amend_here new x b (k ∙ sym e))
    ∙ omega (arith, length-append (image.write new) (write_all image b), length-append (image.write x) (write_all image b), l, ap (λ (y : Record). length (image.write y)) q))
    (λ n. ap records_size (amend_there new x b (λ k. n (k ∙ e)))
    ∙ omega (arith, length-append (image.write x) (write_all image (amend new b)), length-append (image.write x) (write_all image b), amend_size i r new b e l (sym (find_there i x b n) ∙ h)))

abbrev ended : Record → Taken
ended r = record { change = alter (terminate_update r); value = no_value }

-- a store that fits its lent bytes fits them after a termination too: no cause that is read over the book, and 18 last, is 18
pub terminate_fits : (L : LimitSet) (n : ℕ) (i : Ident) (x : Contents) → size x ≤ n → and_then (judge L (update n (terminate i)) x.records) (λ t. fitting n x t) ≢ Err NoRoom
unfolding revised fitting
terminate_fits L n i x h e = by (find i x.records) refl
  where
    by : (o : Option Record) → find i x.records ≡ o → ⊥
    by None q =
        let k : ◌≡◌ {A = Result Taken Refusal} (Err NotFound) (Err NoRoom) = sym (ap (λ (j : Result Taken Refusal). and_then j (λ t. fitting n x t)) (update_unheld L n (terminate i) x.records q)) ∙ e in
        let z : ◌≡◌ {A = ℕ} 0 1 = cc in
        omega arith
    by (Some r) q =
        let m : records_size (amend (terminate_update r) x.records) ≡ records_size x.records = amend_size i r (terminate_update r) x.records (find_ident i r x.records q) (state_length _ r) q in
        let t : ltb n (records_size (amend (terminate_update r) x.records)) ≡ false = le-ltb n (records_size (amend (terminate_update r) x.records)) (omega (arith, m)) in
        let k : fitting n x (ended r) ≡ Err NoRoom = sym (ap (λ (j : Result Taken Refusal). and_then j (λ y. fitting n x y)) (update_held L n (terminate i) x.records r q)) ∙ e in
        let y : Ok (ended r) ≡ Err NoRoom = sym (ap (λ (u : Bool). refuse_if u NoRoom (Ok (ended r))) t) ∙ k in
        let z : ◌≡◌ {A = ℕ} 0 1 = cc in
        omega arith
