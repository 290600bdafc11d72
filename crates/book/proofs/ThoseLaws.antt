-- The book's own words are those of the rules (specs/Rules.antt): which record an identifier or a request names, what is replaced, dropped and counted, where an image lies, and
-- what is given back. Assumes nothing.
use Prim.Native.Nat.{ℕ, ◌+◌}
use native.Mathlib.Omega.{arith}
use native.Mathlib.Nat.{zero-add}
use mathlib.Core.Path.{◌≡◌, refl, sym, ap, ap₂, subst, ◌∙◌}
use mathlib.Core.Logic.{◌≢◌}
use mathlib.Core.Bool.{Bool, true, false, cond, not, ◌&&◌}
use mathlib.Core.List.{List, [], ◌∷◌, ◌++◌, append-nil}
use lib.ListN.{length, length-append}
use lib.Dec.{eqb, ltb}
use Rattle.std.specs.Prelude.{Err, None, Ok, Option, Result, Some}
use Rattle.std.specs.Option.{option_map, unwrap_or}
use Rattle.std.proofs.lemmas.Iterator.Adapters.{option_map_id}
use Rattle.limits.specs.Outcome.{or_refuse}
use Rattle.limits.specs.Refusal.{least_of}
use Rattle.limits.specs.declared.Refusal.{Refusal}
use Rattle.limits.specs.declared.Refusal.TheVariants.{BadStore, SessionExpiresTooSmall}
use Rattle.text.specs.Text.{Piece, equal}
use Rattle.msg.specs.Block.{value_named}
use Rattle.text.proofs.Sames.{equal_same, equal_is}
use Rattle.codec.specs.Codec.{Reading, text, write_all}
use Rattle.record.specs.Record.{State, early, confirmed, terminated, Record, WellFormed, image}
use Rattle.record.specs.Rules.{ack, other}
use Rattle.codec.proofs.CodecLaws.{Bytes}
use Rattle.record.proofs.WellFormedLaws.{image_round, image_back}
use Rattle.dialog_rules.specs.OneImage.{alone, only_one, one_record}
use Rattle.dialog_rules.specs.Updates.{ack_name, kind_of}
use Rattle.dialog_rules.proofs.RefusalLaws.{was_read}
use Rattle.dialog_id.specs.Ident.{Ident, same_ident}
use Rattle.dialog_id.specs.DialogId.{call_id_name, from_name, to_name, tag_named, identifier, identifier_of}
use Rattle.book.specs.Calls.{Value, no_value, number, image_at, written}
use Rattle.book.specs.Book.{Book, records_image, records_size, ident_of, is_of, swapped, named_in, find, find_named, place, amend, others, living, is_terminated, stays, keep, is_early, is_early_of, early_of, place_of, identifiers_of}
use Rattle.book.specs.Returned.{Lent, lent_after}
use Rattle.book.specs.Trace.{All, stage}
use Rattle.book.specs.Rules.{Has, text_of, Names, NoneOf, those, given_back, least_given, id_texts, is_early_other}
use Rattle.book.proofs.IdentLaws.{other_ident, id_cases}
use Rattle.book.proofs.BookLaws.{not_none, Distinct, find_here, find_there, others_all, others_here, keep_there}
use Rattle.book.proofs.ChangeLaws.{alone_is, one_formed}
use Rattle.book.proofs.SpliceLaws.{amend_at, place_held, keep_append}

-- ---- identifiers

pub has_ident : (i : Ident) (r : Record) → Has i r → ident_of r ≡ i
has_ident i r h = λ k. record { call_id = h.call_id k; local_tag = h.local_tag k; remote_tag = h.remote_tag k }

ident_has : (i : Ident) (r : Record) → ident_of r ≡ i → Has i r
ident_has i r e = record { call_id = ap (λ (j : Ident). j.call_id) e; local_tag = ap (λ (j : Ident). j.local_tag) e; remote_tag = ap (λ (j : Ident). j.remote_tag) e }

pub none_found : (i : Ident) (b : Book) → NoneOf (Has i) b → find i b ≡ None
none_found i [] a = refl
none_found i (y ∷ b) a =
    id_cases i y
    (λ e. absurd (a.0 (ident_has i y e)))
    (λ n. find_there i y b n ∙ none_found i b a.1)

-- a record that stands in a book without an identifier twice is found, and no other has its identifier
apart : (i : Ident) (front rest : Book) (r : Record) → find i (front ++ (r ∷ rest)) ≡ None → ident_of r ≢ i
apart i [] rest r h e = not_none (sym (find_here i r rest e) ∙ h)
apart i (y ∷ front) rest r h e =
    id_cases i y
    (λ q. not_none (sym (find_here i y (front ++ (r ∷ rest)) q) ∙ h))
    (λ n. apart i front rest r (sym (find_there i y (front ++ (r ∷ rest)) n) ∙ h) e)

pub none_before : (front rest : Book) (r : Record) → Distinct (front ++ (r ∷ rest)) → find (ident_of r) front ≡ None
none_before [] rest r d = refl
none_before (y ∷ front) rest r d = find_there (ident_of r) y front (λ q. apart (ident_of y) front rest r d.0 (sym q)) ∙ none_before front rest r d.1

pub none_behind : (front rest : Book) (r : Record) → Distinct (front ++ (r ∷ rest)) → find (ident_of r) rest ≡ None
none_behind [] rest r d = d.0
none_behind (y ∷ front) rest r d = none_behind front rest r d.1

pub found_there : (front rest : Book) (r : Record) → Distinct (front ++ (r ∷ rest)) → find (ident_of r) (front ++ (r ∷ rest)) ≡ Some r
found_there [] rest r d = find_here (ident_of r) r rest refl
found_there (y ∷ front) rest r d =
    find_there (ident_of r) y (front ++ (r ∷ rest)) (λ q. apart (ident_of y) front rest r d.0 (sym q)) ∙ found_there front rest r d.1

-- ---- the record that a request names

same_text : {s t : List ℕ} → Some s ≡ Some t → s ≡ t
same_text e = cc

no_text : {X : Type 0} {t : List ℕ} → None ≡ Some t → X
no_text e = absurd (let z : ◌≡◌ {A = ℕ} 0 1 = cc in omega arith)

pub names_ident : (block : List ℕ) (r : Record) → Names block r → named_in block ≡ Some (ident_of r)
unfolding named_in identifier_of
names_ident block r n = by (value_named call_id_name block) (tag_named from_name block) (tag_named to_name block) n.call_id n.remote_tag n.local_tag
  where
    by : (c f t : Option Piece) → text_of c ≡ Some r.call_id → text_of f ≡ Some r.remote_tag → text_of t ≡ Some r.local_tag → swapped (identifier c f t) ≡ Some (ident_of r)
    by None f t p q w = no_text p
    by (Some c) None t p q w = no_text q
    by (Some c) (Some f) None p q w = no_text w
    by (Some c) (Some f) (Some t) p q w = λ k. Some (record { call_id = same_text p k; local_tag = same_text w k; remote_tag = same_text q k })

ident_names : (block : List ℕ) (i : Ident) (r : Record) → named_in block ≡ Some i → Has i r → Names block r
unfolding named_in identifier_of
ident_names block i r n h = by (value_named call_id_name block) refl (tag_named from_name block) refl (tag_named to_name block) refl n
  where
    no_name : {X : Type 0} {j : Ident} → None ≡ Some j → X
    no_name e = absurd (let z : ◌≡◌ {A = ℕ} 0 1 = cc in omega arith)

    same : {j k : Ident} → Some j ≡ Some k → j ≡ k
    same e = cc

    by : (c : Option Piece) → value_named call_id_name block ≡ c → (f : Option Piece) → tag_named from_name block ≡ f → (t : Option Piece) → tag_named to_name block ≡ t
        → swapped (identifier c f t) ≡ Some i → Names block r
    by None ec f ef t et e = no_name e
    by (Some c) ec None ef t et e = no_name e
    by (Some c) ec (Some f) ef None et e = no_name e
    by (Some c) ec (Some f) ef (Some t) et e =
        let j = same e in
        record {
          call_id = ap text_of ec ∙ ap Some (ap (λ (k : Ident). k.call_id) j ∙ sym h.call_id);
          remote_tag = ap text_of ef ∙ ap Some (ap (λ (k : Ident). k.remote_tag) j ∙ sym h.remote_tag);
          local_tag = ap text_of et ∙ ap Some (ap (λ (k : Ident). k.local_tag) j ∙ sym h.local_tag);
        }

pub none_named : (block : List ℕ) (b : Book) → NoneOf (Names block) b → find_named (named_in block) b ≡ None
none_named block b a = by (named_in block) refl
  where
    without : (i : Ident) (l : Book) → named_in block ≡ Some i → NoneOf (Names block) l → NoneOf (Has i) l
    without i [] n h = tt
    without i (y ∷ l) n h = (λ k. h.0 (ident_names block i y n k), without i l n h.1)

    by : (o : Option Ident) → named_in block ≡ o → find_named o b ≡ None
    by None n = refl
    by (Some i) n = none_found i b (without i b n a)

-- ---- replaced, put and dropped

module _ (front rest : Book) (was : Record) (d : Distinct (front ++ (was ∷ rest))) where
  pub amended : (now : Record) → ident_of was ≡ ident_of now → amend now (front ++ (was ∷ rest)) ≡ front ++ (now ∷ rest)
  amended now e = amend_at now was front rest e (subst (λ i. find i front ≡ None) e (none_before front rest was d))

  pub placed_again : (now : Record) → ident_of was ≡ ident_of now → place now (front ++ (was ∷ rest)) ≡ front ++ (now ∷ rest)
  placed_again now e = place_held now was (front ++ (was ∷ rest)) (subst (λ i. find i (front ++ (was ∷ rest)) ≡ Some was) e (found_there front rest was d)) ∙ amended now e

  pub dropped : (i : Ident) → ident_of was ≡ i → keep (others i) (front ++ (was ∷ rest)) ≡ front ++ rest
  dropped i e =
      keep_append (others i) front (was ∷ rest)
      ∙ ap₂ (λ (p q : Book). p ++ q) (others_all i front (subst (λ j. find j front ≡ None) e (none_before front rest was d)))
      (keep_there (others i) was rest (others_here i was e) ∙ others_all i rest (subst (λ j. find j rest ≡ None) e (none_behind front rest was d)))

lives : (r : Record) → stays living r ≡ ltb (stage r.numbers.state) 3
lives r = by r.numbers.state
  where
    by : (s : State) → not (is_terminated s) ≡ ltb (stage s) 3
    by early = refl
    by confirmed = refl
    by terminated = refl

pub swept_those : (b : Book) → keep living b ≡ those (λ y. ltb (stage y.numbers.state) 3) b
unfolding those
swept_those [] = refl
swept_those (r ∷ b) = ap₂ (λ (t : Bool) (l : Book). cond t (r ∷ l) l) (lives r) (swept_those b)

-- ---- counted

early_stage : (s : State) → is_early s ≡ eqb (stage s) 1
early_stage early = refl
early_stage confirmed = refl
early_stage terminated = refl

-- the Early of r's Call-ID without r's own identifier
pub early_others_lem : (r : Record) (b : Book) → early_of r.call_id (keep (others (ident_of r)) b) ≡ length (those (is_early_other r) b)
unfolding those is_early_other is_early_of same_ident
early_others_lem r [] = refl
early_others_lem r (y ∷ b) =
    by (equal y.call_id r.call_id) (is_early y.numbers.state) (equal y.local_tag r.local_tag && equal y.remote_tag r.remote_tag) refl refl refl (early_others_lem r b)
  where
    n : ℕ
    n = early_of r.call_id (keep (others (ident_of r)) b)

    by : (p q w : Bool) → equal y.call_id r.call_id ≡ p → is_early y.numbers.state ≡ q → (equal y.local_tag r.local_tag && equal y.remote_tag r.remote_tag) ≡ w
        → n ≡ length (those (is_early_other r) b)
        → early_of r.call_id (cond (not (equal y.call_id r.call_id && (equal y.local_tag r.local_tag && equal y.remote_tag r.remote_tag))) (y ∷ keep (others (ident_of r)) b) (keep (others (ident_of r)) b))
        ≡ length (cond (equal y.call_id r.call_id && (eqb (stage y.numbers.state) 1 && not (equal y.local_tag r.local_tag && equal y.remote_tag r.remote_tag))) (y ∷ those (is_early_other r) b) (those (is_early_other r) b))
    by true true true ep eq ew ih = rw (ep, sym (early_stage y.numbers.state), eq, ew) ih
    by true true false ep eq ew ih =
        let more : 1 + n ≡ length (y ∷ those (is_early_other r) b) = omega (arith, ih) in
        rw (ep, sym (early_stage y.numbers.state), eq, ew) (ap₂ (λ (p q : Bool). cond (p && q) 1 0 + n) ep eq ∙ more)
    by true false true ep eq ew ih = rw (ep, sym (early_stage y.numbers.state), eq, ew) ih
    by true false false ep eq ew ih = rw (ep, sym (early_stage y.numbers.state), eq, ew) (ap₂ (λ (p q : Bool). cond (p && q) 1 0 + n) ep eq ∙ (zero-add n ∙ ih))
    by false q w ep eq ew ih = rw ep (ap (λ t. cond (t && is_early y.numbers.state) 1 0 + n) ep ∙ (zero-add n ∙ ih))

-- ---- where an image lies

pub place_behind : (test : Record → Bool) (at : ℕ) (front rest : Book) (r : Record) → All (λ y. test y ≡ false) front → test r ≡ true
    → place_of test at (front ++ (r ∷ rest)) ≡ Some (image_at (at + records_size front) (length (image.write r)))
unfolding place_of write_all
place_behind test at [] rest r a e = rw e (ap (λ k. Some (image_at k (length (image.write r)))) (omega arith))
place_behind test at (y ∷ front) rest r a e =
    rw a.0
    (place_behind test (at + length (image.write y)) front rest r a.1 e
    ∙ ap (λ k. Some (image_at k (length (image.write r)))) (omega (arith, length-append (image.write y) (records_image front))))

pub place_nowhere : (test : Record → Bool) (at : ℕ) (b : Book) → All (λ y. test y ≡ false) b → place_of test at b ≡ None
unfolding place_of
place_nowhere test at [] a = refl
place_nowhere test at (y ∷ b) a = rw a.0 (place_nowhere test (at + length (image.write y)) b a.1)

pub not_held : (i : Ident) (b : Book) → find i b ≡ None → All (λ y. is_of i y ≡ false) b
not_held i [] h = tt
not_held i (y ∷ b) h =
    id_cases i y
    (λ e. not_none (sym (find_here i y b e) ∙ h))
    (λ n. (other_ident (ident_of y) i n, not_held i b (sym (find_there i y b n) ∙ h)))

unequal : (s t : List ℕ) → s ≢ t → equal s t ≡ false
unequal s t n = by (equal s t) refl
  where
    by : (p : Bool) → equal s t ≡ p → p ≡ false
    by true e = absurd (n (equal_is s t e))
    by false e = refl

pub all_unequal : (t : List ℕ) (b : Book) → NoneOf (λ (y : Record). y.call_id ≡ t) b → All (λ (y : Record). equal y.call_id t ≡ false) b
all_unequal t [] a = tt
all_unequal t (y ∷ b) a = (unequal y.call_id t a.0, all_unequal t b a.1)

pub ids_same : (b : Book) → identifiers_of b ≡ id_texts b
unfolding identifiers_of id_texts
ids_same [] = refl
ids_same (r ∷ b) = ap (λ s. (text.write r.call_id ++ (text.write r.local_tag ++ text.write r.remote_tag)) ++ s) (ids_same b)

-- ---- a method

pub is_ack : (method : List ℕ) → method ≡ ack_name → kind_of method ≡ ack
is_ack method e = ap (λ t. cond t ack other) (ap (λ s. equal s ack_name) e ∙ equal_same ack_name)

pub is_other_lem : (method : List ℕ) → method ≢ ack_name → kind_of method ≡ other
is_other_lem method n = ap (λ t. cond t ack other) (unequal method ack_name n)

-- ---- one record's image

pub image_given : (s : List ℕ) (r : Record) → WellFormed r → s ≡ image.write r → one_record s ≡ Ok r
unfolding one_record
image_given s r w e = ap (λ o. or_refuse BadStore (only_one o)) (ap image.read (e ∙ sym (append-nil (image.write r))) ∙ image_round r w [])

given_image : (s : List ℕ) (r : Record) → Bytes s → one_record s ≡ Ok r → s ≡ image.write r
unfolding one_record
given_image s r h e = by (image.read s) refl (was_read BadStore (only_one (image.read s)) e)
  where
    ends : (x : Reading Record) (rest : List ℕ) → alone x rest ≡ Some r → rest ≡ []
    ends x [] k = refl
    ends x (b ∷ l) k = absurd (let z : ◌≡◌ {A = ℕ} 0 1 = cc in omega arith)

    by : (o : Option (Reading Record)) → image.read s ≡ o → only_one o ≡ Some r → s ≡ image.write r
    by None q k = absurd (let z : ◌≡◌ {A = ℕ} 0 1 = cc in omega arith)
    by (Some x) q k =
        (image_back s x h q).0
        ∙ (ap₂ (λ (v : Record) (l : List ℕ). image.write v ++ l) (alone_is x x.rest r k) (ends x x.rest k) ∙ append-nil (image.write r))

pub no_image : (s : List ℕ) → Bytes s → ((r : Record) → WellFormed r → s ≢ image.write r) → (cause : Refusal) × (one_record s ≡ Err cause)
no_image s h n = by (one_record s) refl
  where
    by : (o : Result Record Refusal) → one_record s ≡ o → (cause : Refusal) × (one_record s ≡ Err cause)
    by (Err cause) e = (cause, e)
    by (Ok r) e = absurd (n r (one_formed s r h e) (given_image s r h e))

-- ---- what is given back

pub value_given : (v : Value) (l : Lent) → lent_after (Ok v) l ≡ given_back v l
value_given no_value l = λ i. record { number = option_map_id l.number i; place = option_map_id l.place i; length = option_map_id l.length i; least = option_map_id l.least i; count = (given_back no_value l).count; output = option_map_id l.output i }
value_given (number n) l = λ i. record { number = (given_back (number n) l).number; place = option_map_id l.place i; length = option_map_id l.length i; least = option_map_id l.least i; count = (given_back (number n) l).count; output = option_map_id l.output i }
value_given (image_at p n) l = λ i. record { number = option_map_id l.number i; place = (given_back (image_at p n) l).place; length = (given_back (image_at p n) l).length; least = option_map_id l.least i; count = (given_back (image_at p n) l).count; output = option_map_id l.output i }
value_given (written s) l = λ i. record { number = option_map_id l.number i; place = option_map_id l.place i; length = (given_back (written s) l).length; least = option_map_id l.least i; count = (given_back (written s) l).count; output = (given_back (written s) l).output }

pub least_given_lem : (n : ℕ) (l : Lent) → lent_after (Err (SessionExpiresTooSmall n)) l ≡ least_given n l
least_given_lem n l = λ i. record { number = option_map_id l.number i; place = option_map_id l.place i; length = option_map_id l.length i; least = (least_given n l).least; count = option_map_id l.count i; output = option_map_id l.output i }

-- a refusal without a value leaves what was lent as it was
pub lent_kept : (cause : Refusal) (l : Lent) → least_of cause ≡ None → lent_after (Err cause) l ≡ l
lent_kept cause l n = λ i. record { number = option_map_id l.number i; place = option_map_id l.place i; length = option_map_id l.length i; least = least_same i; count = option_map_id l.count i; output = option_map_id l.output i }
  where
    least_same : (lent_after (Err cause) l).least ≡ l.least
    least_same = ap (λ o. option_map (λ (old : ℕ). unwrap_or o old) l.least) n ∙ option_map_id l.least
