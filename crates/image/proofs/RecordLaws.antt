-- The record: the sections in their order, the secure bit and the map. Assumes nothing.
use Prim.Native.Nat.{ℕ, ◌+◌, ◌-◌, ◌<◌}
use native.Mathlib.Omega.{arith}
use mathlib.Core.Path.{◌≡◌, refl, sym, ap, ap₂, ◌∙◌}
use mathlib.Core.Bool.{Bool, true, false, cond, not, ◌||◌, beq}
use mathlib.Core.List.{List}
use lib.ListN.{length, drop}
use lib.Dec.{eqb}
use borrow.Author.Tests.{not-true, not-false}
use Rattle.std.specs.Prelude.{None, Option, Some}
use Rattle.codec.specs.Codec.{Reading, two, paired, passing, renamed, keyed_by}
use Rattle.record.specs.Record.{Fields, Tail, is_secure, secure_right, map_of, fields, record_of, image, state_byte, uris_field, tail_field}
use Rattle.record.specs.NumbersForm.{state_from, numbers_from}
use Rattle.record.specs.declared.numbers.State.{State}
use Rattle.image.specs.Places.{numbers_size, routes_size, ids_places, uris_places, tail_places, record_places, state_field_of, uris_from, tail_from, record_from}
use Rattle.image.specs.declared.sections.IdsAt.{IdsAt}
use Rattle.image.specs.declared.sections.UrisAt.{UrisAt}
use Rattle.image.specs.declared.sections.TailAt.{TailAt}
use Rattle.image.specs.declared.RecordAt.{RecordAt}
use Rattle.codec.proofs.ReadLaws.{two_none}
use Rattle.limits.proofs.Laws.{pair_parts}
use Rattle.image.proofs.AnswerLaws.{IdsGot, StateGot, state_not, UrisGot, uris_not, TailGot, tail_not}
use Rattle.image.proofs.MapBits.{is_map, map_is, map_not, ids_give, tail_gives}

-- ---- the secure bit: v is what the code holds it against

pub differs : (secure : Bool) {v w : Bool} → v ≡ w → not (beq secure v) ≡ true → beq secure w ≡ false
differs secure {v} {w} j e = ap (λ (x : Bool). beq secure x) (sym j) ∙ not-true (beq secure v) e

pub agrees : (secure : Bool) {v w : Bool} → v ≡ w → not (beq secure v) ≡ false → beq secure w ≡ true
agrees secure {v} {w} j e = ap (λ (x : Bool). beq secure x) (sym j) ∙ not-false (beq secure v) e

-- ---- the places of a record, as the code makes them from those of the sections

abbrev made : IdsAt → State → Bool → UrisAt → TailAt → RecordAt
made p state uac u t = record {
  ids = p;
  state = p.end;
  we_are_uac = uac;
  uris = u;
  numbers = record { state = state; local = t.local; remote = t.remote; last_ack = t.last_ack; seconds = t.seconds; refresher = t.refresher };
  routes = t.routes;
  route_count = t.route_count;
  end = t.end;
}

made_same : {p p' : IdsAt} {state state' : State} {uac uac' : Bool} {u u' : UrisAt} {t t' : TailAt} → p ≡ p' → state ≡ state' → uac ≡ uac' → u ≡ u' → t ≡ t' → made p state uac u t ≡ made p' state' uac' u' t'
made_same a b c d e = cc

module _ (at : ℕ) (f : Fields) where
  abbrev ids_there : IdsAt
  ids_there = ids_places (at + 2) f.first

  abbrev uris_there : UrisAt
  uris_there = uris_places (ids_there.end + 1) f.second.second.first

  abbrev tail_there : TailAt
  tail_there = tail_places uris_there.end f.second.second.second

  routes_at_lem : (a : ℕ) → (tail_places a f.second.second.second).routes ≡ a + numbers_size (record_of f).numbers
  routes_at_lem a = omega arith

  end_at_lem : (a : ℕ) → (tail_places a f.second.second.second).end ≡ a + numbers_size (record_of f).numbers + routes_size (record_of f).routes
  end_at_lem a = omega arith

  abbrev with_ends : ℕ → ℕ → RecordAt
  with_ends r e = record {
    ids = ids_there;
    state = ids_there.end;
    we_are_uac = f.second.first.we_are_uac;
    uris = uris_there;
    numbers = numbers_from (record_of f).numbers;
    routes = r;
    route_count = length (record_of f).routes;
    end = e;
  }

  places_are : made ids_there (state_from f.second.first.state) f.second.first.we_are_uac uris_there tail_there ≡ record_places at (record_of f)
  places_are = ap₂ (λ (r e : ℕ). with_ends r e) (routes_at_lem uris_there.end) (end_at_lem uris_there.end)

  -- each section's place is given by that of the one before it
  made_is : {p : IdsAt} {state : State} {uac : Bool} {u : UrisAt} {t : TailAt} → p ≡ ids_there → state ≡ state_from f.second.first.state → uac ≡ f.second.first.we_are_uac
      → u ≡ uris_places (p.end + 1) f.second.second.first → t ≡ tail_places u.end f.second.second.second → made p state uac u t ≡ record_places at (record_of f)
  made_is a b c d e =
      let d' = d ∙ ap (λ (x : IdsAt). uris_places (x.end + 1) f.second.second.first) a in
      made_same a b c d' (e ∙ ap (λ (x : UrisAt). tail_places x.end f.second.second.second) d') ∙ places_are

-- ---- the record

module _ (s : List ℕ) (at : ℕ) where
  pub record_short : length s - at < 2 → None ≡ record_from at (image.read (drop at s))
  record_short h = rw (two_none s at h)

  module _ {m : ℕ} (k : two.read (drop at s) ≡ Some (record { value = m; rest = drop (at + 2) s })) where
    pub no_map : is_map m ≡ false → None ≡ record_from at (image.read (drop at s))
    no_map e = rw k (by ((fields m).read (drop (at + 2) s)))
      where
        by : (o : Option (Reading Fields)) → None ≡ record_from at (renamed record_of (passing secure_right (keyed_by map_of m o)))
        by None = refl
        by (Some x) = rw (map_not m x.value e)

    module _ {p : IdsAt} (x : IdsGot m s (at + 2) p) where
      pub no_state : {r : Option (State × Bool × Bool)} → r ≡ state_field_of (state_byte.read (drop p.end s)) → r ≡ None → None ≡ record_from at (image.read (drop at s))
      no_state e q = rw (k, x.got.reads, state_not (state_byte.read (drop p.end s)) (sym e ∙ q))

      module _ {state : State} {uac secure : Bool} (y : StateGot s p.end state uac secure) where
        pub no_uris : {r : Option UrisAt} → r ≡ uris_from (p.end + 1) (uris_field.read (drop (p.end + 1) s)) → r ≡ None → None ≡ record_from at (image.read (drop at s))
        no_uris e q = rw (k, x.got.reads, y.got.reads, uris_not (p.end + 1) (uris_field.read (drop (p.end + 1) s)) (sym e ∙ q))

        module _ {u : UrisAt} (z : UrisGot s (p.end + 1) u) where
          -- the secure bit, as the code has it and as the definition does
          right_is : beq y.value.secure (is_secure z.value) ≡ beq secure (u.local_secure || u.remote_secure)
          right_is = cc ((pair_parts (pair_parts y.placed).1).1, z.placed)

          pub wrong_bit : beq secure (u.local_secure || u.remote_secure) ≡ false → None ≡ record_from at (image.read (drop at s))
          wrong_bit e = rw (k, x.got.reads, y.got.reads, z.got.reads) (by ((tail_field m).read (drop u.end s)))
            where
              by : (o : Option (Reading Tail)) → None ≡ record_from at (renamed record_of (passing secure_right (keyed_by map_of m (paired x.value (paired y.value (paired z.value o))))))
              by None = refl
              by (Some t) = is (eqb (map_of (record { first = x.value; second = record { first = y.value; second = record { first = z.value; second = t.value } } })) m)
                where
                  is : (b : Bool) → None ≡ record_from at (renamed record_of (passing secure_right (cond b (Some (record { value = record { first = x.value; second = record { first = y.value; second = record { first = z.value; second = t.value } } }; rest = t.rest })) None)))
                  is true = rw (right_is, e)
                  is false = refl

          pub no_tail : {r : Option TailAt} → r ≡ tail_from u.end ((tail_field m).read (drop u.end s)) → r ≡ None → None ≡ record_from at (image.read (drop at s))
          no_tail e q = rw (k, x.got.reads, y.got.reads, z.got.reads, tail_not u.end ((tail_field m).read (drop u.end s)) (sym e ∙ q))

          module _ (f : is_map m ≡ true) (g : beq secure (u.local_secure || u.remote_secure) ≡ true) {t : TailAt} (w : TailGot m s u.end t) where
            abbrev all : Fields
            all = record { first = x.value; second = record { first = y.value; second = record { first = z.value; second = w.value } } }

            mapped_right : eqb (map_of all) m ≡ true
            mapped_right = map_is m all f ((ids_give m).holds (drop (at + 2) s) _ x.got.reads) ((tail_gives m).holds (drop u.end s) _ w.got.reads)

            pub record_whole : {r : RecordAt} → r ≡ made p state uac u t → Some r ≡ record_from at (image.read (drop at s))
            record_whole e = rw (k, x.got.reads, y.got.reads, z.got.reads, w.got.reads, mapped_right, right_is, g) (ap Some (e ∙ made_is at all x.placed (pair_parts y.placed).0 (pair_parts (pair_parts y.placed).1).0 z.placed w.placed))
