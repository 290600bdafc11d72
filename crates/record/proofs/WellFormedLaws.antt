-- A record has a good image exactly if it is well-formed; the two laws of the image for well-formed records. Assumes nothing.
use Prim.Native.Nat.{ℕ, suc, ◌^◌, ◌≤◌, ◌<◌}
use native.Mathlib.Omega.{arith}
use mathlib.Core.Path.{◌≡◌, refl, sym, subst, ◌∙◌}
use mathlib.Core.Bool.{Bool, true, false}
use mathlib.Core.List.{List, [], ◌∷◌, ◌++◌}
use lib.ListN.{length}
use lib.Dec.{leb, ltb}
use borrow.Author.Tests.{lt-ltb, ltb-false, le-leb, leb-true}
use Rattle.std.specs.Prelude.{None, Option, Some}
use Rattle.std.proofs.lemmas.Bool.{and_parts}
use Rattle.text.specs.Text.{all}
use Rattle.codec.specs.Codec.{Reading}
use Rattle.record.specs.Record.{Record, Side, IdPart, OptionalPart, EachUri, WellFormed, is_filled, is_given, fields_of, image}
use Rattle.codec.proofs.CodecLaws.{Bytes, GoodFlag, GoodAll}
use Rattle.record.proofs.MapLaws.{stands_0, stands_1, stands_2, stands_7, stands_8, stands_9, stands_10, stands_11, stands_12, map_fits}
use Rattle.record.proofs.RecordLaws.{GoodId, GoodUri, GoodNumber, GoodOptional, GoodSide, GoodRoutes, GoodRecord, image_exact}

-- ---- field by field: flag says whether the field is there

module _ (flag : Bool) where
  id_good : (t : List ℕ) → flag ≡ is_filled t → IdPart t → GoodFlag flag [] GoodId t
  id_good [] e p = subst (λ (b : Bool). GoodFlag b [] GoodId []) (sym e) refl
  id_good (b ∷ t) e p = subst (λ (f : Bool). GoodFlag f [] GoodId (b ∷ t)) (sym e) p

  id_back : (t : List ℕ) → flag ≡ is_filled t → GoodFlag flag [] GoodId t → IdPart t
  unfolding all
  id_back [] e g = (omega arith, refl)
  id_back (b ∷ t) e g = subst (λ (f : Bool). GoodFlag f [] GoodId (b ∷ t)) e g

  number_good : (n : ℕ) → flag ≡ ltb 0 n → n < 2 ^ 32 → GoodFlag flag 0 GoodNumber n
  number_good n e p = by (ltb 0 n) refl
    where
      by : (t : Bool) → ltb 0 n ≡ t → GoodFlag flag 0 GoodNumber n
      by true t = subst (λ (f : Bool). GoodFlag f 0 GoodNumber n) (sym (e ∙ t)) (p, t)
      by false t = subst (λ (f : Bool). GoodFlag f 0 GoodNumber n) (sym (e ∙ t)) (let k : n ≤ 0 = ltb-false _ _ t in omega arith)

  number_back : (n : ℕ) → flag ≡ ltb 0 n → GoodFlag flag 0 GoodNumber n → n < 2 ^ 32
  number_back n e g = by (ltb 0 n) refl
    where
      by : (t : Bool) → ltb 0 n ≡ t → n < 2 ^ 32
      by true t = (subst (λ (f : Bool). GoodFlag f 0 GoodNumber n) (e ∙ t) g).0
      by false t = let k : n ≤ 0 = ltb-false _ _ t in omega arith

  optional_good : (o : Option ℕ) → flag ≡ is_given o → OptionalPart o → GoodFlag flag None GoodOptional o
  optional_good None e p = subst (λ (f : Bool). GoodFlag f None GoodOptional None) (sym e) refl
  optional_good (Some n) e p = subst (λ (f : Bool). GoodFlag f None GoodOptional (Some n)) (sym e) p

  optional_back : (o : Option ℕ) → flag ≡ is_given o → GoodFlag flag None GoodOptional o → OptionalPart o
  optional_back None e g = tt
  optional_back (Some n) e g = subst (λ (f : Bool). GoodFlag f None GoodOptional (Some n)) e g

  side_good : (o : Option Side) → flag ≡ is_given o → GoodFlag flag None GoodSide o
  side_good None e = subst (λ (f : Bool). GoodFlag f None GoodSide None) (sym e) refl
  side_good (Some s) e = subst (λ (f : Bool). GoodFlag f None GoodSide (Some s)) (sym e) tt

  each_good : (l : List (List ℕ)) → EachUri l → GoodAll GoodUri l
  each_good [] p = tt
  each_good (t ∷ l) p = (p.0, each_good l p.1)

  each_back : (l : List (List ℕ)) → GoodAll GoodUri l → EachUri l
  each_back [] g = tt
  each_back (t ∷ l) g = (g.0, each_back l g.1)

  routes_good : (l : List (List ℕ)) → flag ≡ is_filled l → EachUri l → length l ≤ 50 → GoodFlag flag [] GoodRoutes l
  routes_good [] e p h = subst (λ (f : Bool). GoodFlag f [] GoodRoutes []) (sym e) refl
  routes_good (t ∷ l) e p h =
      let k : ltb 0 (suc (length l)) ≡ true = lt-ltb 0 (suc (length l)) (omega arith) in
      subst (λ (f : Bool). GoodFlag f [] GoodRoutes (t ∷ l)) (sym e) ((each_good (t ∷ l) p, omega arith), rw (k, le-leb (suc (length l)) 50 h))

  routes_back : (l : List (List ℕ)) → flag ≡ is_filled l → GoodFlag flag [] GoodRoutes l → EachUri l × (length l ≤ 50)
  routes_back [] e g = (tt, omega arith)
  routes_back (t ∷ l) e g =
      let k : GoodRoutes (t ∷ l) = subst (λ (f : Bool). GoodFlag f [] GoodRoutes (t ∷ l)) e g in
      (each_back (t ∷ l) k.0.0, leb-true (suc (length l)) 50 (and_parts (ltb 0 (suc (length l))) (leb (suc (length l)) 50) k.1).1)

-- ---- the whole record

pub good : (r : Record) → WellFormed r → GoodRecord r
good r w =
    let f = fields_of r in (
      (
        (id_good _ r.call_id (stands_0 f) w.call_id, (id_good _ r.local_tag (stands_1 f) w.local_tag, id_good _ r.remote_tag (stands_2 f) w.remote_tag)),
        (
          tt,
          (
            (w.target, (w.local_uri, w.remote_uri)),
            (
              number_good _ r.numbers.local (stands_7 f) w.local,
              (
                number_good _ r.numbers.remote (stands_8 f) w.remote,
                (
                  optional_good _ r.numbers.last_ack (stands_9 f) w.last_ack,
                  (
                    optional_good _ r.numbers.seconds (stands_10 f) w.seconds,
                    (side_good _ r.numbers.refresher (stands_11 f), routes_good _ r.routes (stands_12 f) w.routes w.route_count),
                  ),
                ),
              ),
            ),
          ),
        ),
      ),
      map_fits f,
    )

pub formed : (r : Record) → GoodRecord r → WellFormed r
formed r g =
    let f = fields_of r in
    let t = g.0.1.1.1 in
    let routes = routes_back _ r.routes (stands_12 f) t.1.1.1.1.1 in
    record {
      call_id = id_back _ r.call_id (stands_0 f) g.0.0.0;
      local_tag = id_back _ r.local_tag (stands_1 f) g.0.0.1.0;
      remote_tag = id_back _ r.remote_tag (stands_2 f) g.0.0.1.1;
      target = g.0.1.1.0.0;
      local_uri = g.0.1.1.0.1.0;
      remote_uri = g.0.1.1.0.1.1;
      local = number_back _ r.numbers.local (stands_7 f) t.0;
      remote = number_back _ r.numbers.remote (stands_8 f) t.1.0;
      last_ack = optional_back _ r.numbers.last_ack (stands_9 f) t.1.1.0;
      seconds = optional_back _ r.numbers.seconds (stands_10 f) t.1.1.1.0;
      routes = routes.0;
      route_count = routes.1;
    }

-- ---- the laws of the image

-- the image of a well-formed record, then other bytes, is read as that record and the other bytes
pub image_round : (r : Record) → WellFormed r → (rest : List ℕ) → image.read (image.write r ++ rest) ≡ Some (record { value = r; rest = rest })
image_round r w rest = image_exact.round r (good r w) rest

-- what is read from bytes is a well-formed record, and the bytes were its image and the rest
pub image_back : (s : List ℕ) (x : Reading Record) → Bytes s → image.read s ≡ Some x → (s ≡ image.write x.value ++ x.rest) × WellFormed x.value
image_back s x h e = let k = image_exact.back s x h e in (k.0, formed x.value k.1)
