-- The sections: the fields in their order, each from where the one before it ends. Assumes nothing.
use Prim.Native.Nat.{ℕ, ◌+◌, ◌≤◌}
use native.Mathlib.Nat.{add-zero}
use mathlib.Core.Path.{◌≡◌, refl, sym, ap, ◌∙◌}
use mathlib.Core.Bool.{Bool, true, false}
use mathlib.Core.List.{List}
use lib.ListN.{length, drop}
use Rattle.std.specs.Prelude.{None, Option, Some}
use Rattle.limits.proofs.Laws.{pair_parts}
use Rattle.text.specs.declared.Span.{Span}
use Rattle.record.specs.Record.{stands, id_text, uri_text, number, optional, refresher_field, routes_field, ids_field, uris_field, tail_field}
use Rattle.headers.specs.declared.session_timer.Refresher.{Refresher}
use Rattle.image.specs.Places.{texts_size, id_from, number_at, optional_at, refresher_at, routes_at, ids_from, uris_from, tail_from}
use Rattle.image.proofs.AnswerLaws.{IdGot, id_got, id_not, UriGot, NumberGot, number_got, number_not, OptionalGot, optional_got, optional_not, SideGot, side_got, side_not, RoutesGot, routes_got, routes_not}

-- ---- in a caller's words: r is what the call gave, b the bit that it was handed

-- what is read where the bit stands, and w where it does not
read_by : {A : Type 0} (h : Bool → Option A) {r w : Option A} {b flag : Bool} → b ≡ flag → (b ≡ true → r ≡ h true) → (b ≡ false → r ≡ w) → w ≡ h false → r ≡ h flag
read_by h {b = true} f e z k = e refl ∙ ap h f
read_by h {b = false} f e z k = z refl ∙ k ∙ ap h f

module _ (s : List ℕ) (at : ℕ) {b flag : Bool} (f : b ≡ flag) where
  pub id_told : {r : Option Span} {p : Span} → at ≤ length s → r ≡ id_from at ((id_text b).read (drop at s)) → r ≡ Some p → IdGot flag s at p
  id_told h e q = id_got flag s at h (ap (λ (x : Bool). id_from at ((id_text x).read (drop at s))) (sym f) ∙ sym e ∙ q)

  pub id_none : {r : Option Span} → r ≡ id_from at ((id_text b).read (drop at s)) → r ≡ None → (id_text flag).read (drop at s) ≡ None
  id_none e q = id_not at ((id_text flag).read (drop at s)) (ap (λ (x : Bool). id_from at ((id_text x).read (drop at s))) (sym f) ∙ sym e ∙ q)

  module _ {r : Option (ℕ × ℕ)} (e : b ≡ true → r ≡ number_at at ((number true).read (drop at s))) (z : b ≡ false → r ≡ Some (0, at)) where
    number_by : r ≡ number_at at ((number flag).read (drop at s))
    number_by = read_by (λ (x : Bool). number_at at ((number x).read (drop at s))) f e z (rw add-zero)

    pub number_told : {n : ℕ} {next : ℕ} → at ≤ length s → r ≡ Some (n, next) → NumberGot flag s at n next
    number_told h q = number_got flag s at h (sym number_by ∙ q)

    pub number_none : r ≡ None → (number flag).read (drop at s) ≡ None
    number_none q = number_not at ((number flag).read (drop at s)) (sym number_by ∙ q)

  module _ {r : Option (Option ℕ × ℕ)} (e : b ≡ true → r ≡ optional_at at ((optional true).read (drop at s))) (z : b ≡ false → r ≡ Some (None, at)) where
    optional_by : r ≡ optional_at at ((optional flag).read (drop at s))
    optional_by = read_by (λ (x : Bool). optional_at at ((optional x).read (drop at s))) f e z (rw add-zero)

    pub optional_told : {n : Option ℕ} {next : ℕ} → at ≤ length s → r ≡ Some (n, next) → OptionalGot flag s at n next
    optional_told h q = optional_got flag s at h (sym optional_by ∙ q)

    pub optional_none : r ≡ None → (optional flag).read (drop at s) ≡ None
    optional_none q = optional_not at ((optional flag).read (drop at s)) (sym optional_by ∙ q)

  module _ {r : Option (Option Refresher × ℕ)} (e : b ≡ true → r ≡ refresher_at at ((refresher_field true).read (drop at s))) (z : b ≡ false → r ≡ Some (None, at)) where
    side_by : r ≡ refresher_at at ((refresher_field flag).read (drop at s))
    side_by = read_by (λ (x : Bool). refresher_at at ((refresher_field x).read (drop at s))) f e z (rw add-zero)

    pub side_told : {n : Option Refresher} {next : ℕ} → at ≤ length s → r ≡ Some (n, next) → SideGot flag s at n next
    side_told h q = side_got flag s at h (sym side_by ∙ q)

    pub side_none : r ≡ None → (refresher_field flag).read (drop at s) ≡ None
    side_none q = side_not at ((refresher_field flag).read (drop at s)) (sym side_by ∙ q)

  module _ {r : Option (ℕ × ℕ)} (e : b ≡ true → r ≡ routes_at at ((routes_field true).read (drop at s))) (z : b ≡ false → r ≡ Some (0, at)) where
    routes_by : r ≡ routes_at at ((routes_field flag).read (drop at s))
    unfolding texts_size
    routes_by = read_by (λ (x : Bool). routes_at at ((routes_field x).read (drop at s))) f e z (rw add-zero)

    pub routes_told : {n : ℕ} {next : ℕ} → at ≤ length s → r ≡ Some (n, next) → RoutesGot flag s at n next
    routes_told h q = routes_got flag s at h (sym routes_by ∙ q)

    pub routes_none : r ≡ None → (routes_field flag).read (drop at s) ≡ None
    routes_none q = routes_not at ((routes_field flag).read (drop at s)) (sym routes_by ∙ q)

-- ---- the identifiers

module _ (m : ℕ) (s : List ℕ) (at : ℕ) where
  module _ {a : Span} (x : IdGot (stands 0 m) s at a) where
    pub ids_none_2 : (id_text (stands 1 m)).read (drop (a.start + a.length) s) ≡ None → None ≡ ids_from at ((ids_field m).read (drop at s))
    ids_none_2 e = rw (x.got.reads, e)

    module _ {b : Span} (y : IdGot (stands 1 m) s (a.start + a.length) b) where
      pub ids_none_3 : (id_text (stands 2 m)).read (drop (b.start + b.length) s) ≡ None → None ≡ ids_from at ((ids_field m).read (drop at s))
      ids_none_3 e = rw (x.got.reads, y.got.reads, e)

      pub ids_whole : {c : Span} → IdGot (stands 2 m) s (b.start + b.length) c
          → Some (record { id = record { call_id = a; local_tag = b; remote_tag = c }; end = c.start + c.length }) ≡ ids_from at ((ids_field m).read (drop at s))
      ids_whole z = rw (x.got.reads, y.got.reads, z.got.reads) (cc (x.placed, y.placed, z.placed))

-- ---- the URIs

module _ (s : List ℕ) (at : ℕ) where
  module _ {a : Span} {sa : Bool} (x : UriGot s at a sa) where
    pub uris_none_2 : uri_text.read (drop (a.start + a.length) s) ≡ None → None ≡ uris_from at (uris_field.read (drop at s))
    uris_none_2 e = rw (x.got.reads, e)

    module _ {b : Span} {sb : Bool} (y : UriGot s (a.start + a.length) b sb) where
      pub uris_none_3 : uri_text.read (drop (b.start + b.length) s) ≡ None → None ≡ uris_from at (uris_field.read (drop at s))
      uris_none_3 e = rw (x.got.reads, y.got.reads, e)

      pub uris_whole : {c : Span} {sc : Bool} → UriGot s (b.start + b.length) c sc
          → Some (record { target = a; local_uri = b; remote_uri = c; local_secure = sb; remote_secure = sc; end = c.start + c.length }) ≡ uris_from at (uris_field.read (drop at s))
      uris_whole z =
          rw (x.got.reads, y.got.reads, z.got.reads)
          (cc ((pair_parts x.placed).0, (pair_parts y.placed).0, (pair_parts z.placed).0, (pair_parts y.placed).1, (pair_parts z.placed).1))

-- ---- the numbers and the routes

module _ (m : ℕ) (s : List ℕ) (at : ℕ) where
  module _ {i b : ℕ} (x1 : NumberGot (stands 7 m) s at i b) where
    pub tail_none_2 : (number (stands 8 m)).read (drop b s) ≡ None → None ≡ tail_from at ((tail_field m).read (drop at s))
    tail_none_2 e = rw (x1.got.reads, e)

    module _ {j c : ℕ} (x2 : NumberGot (stands 8 m) s b j c) where
      pub tail_none_3 : (optional (stands 9 m)).read (drop c s) ≡ None → None ≡ tail_from at ((tail_field m).read (drop at s))
      tail_none_3 e = rw (x1.got.reads, x2.got.reads, e)

      module _ {k : Option ℕ} {d : ℕ} (x3 : OptionalGot (stands 9 m) s c k d) where
        pub tail_none_4 : (optional (stands 10 m)).read (drop d s) ≡ None → None ≡ tail_from at ((tail_field m).read (drop at s))
        tail_none_4 e = rw (x1.got.reads, x2.got.reads, x3.got.reads, e)

        module _ {l : Option ℕ} {e : ℕ} (x4 : OptionalGot (stands 10 m) s d l e) where
          pub tail_none_5 : (refresher_field (stands 11 m)).read (drop e s) ≡ None → None ≡ tail_from at ((tail_field m).read (drop at s))
          tail_none_5 z = rw (x1.got.reads, x2.got.reads, x3.got.reads, x4.got.reads, z)

          module _ {n : Option Refresher} {f : ℕ} (x5 : SideGot (stands 11 m) s e n f) where
            pub tail_none_6 : (routes_field (stands 12 m)).read (drop f s) ≡ None → None ≡ tail_from at ((tail_field m).read (drop at s))
            tail_none_6 z = rw (x1.got.reads, x2.got.reads, x3.got.reads, x4.got.reads, x5.got.reads, z)

            pub tail_whole : {count g : ℕ} → RoutesGot (stands 12 m) s f count g
                → Some (record { local = i; remote = j; last_ack = k; seconds = l; refresher = n; routes = f; route_count = count; end = g }) ≡ tail_from at ((tail_field m).read (drop at s))
            tail_whole x6 =
                rw (x1.got.reads, x2.got.reads, x3.got.reads, x4.got.reads, x5.got.reads, x6.got.reads)
                (cc (
                  (pair_parts x1.placed).0,
                  (pair_parts x2.placed).0,
                  (pair_parts x3.placed).0,
                  (pair_parts x4.placed).0,
                  (pair_parts x5.placed).0,
                  (pair_parts x6.placed).0,
                  (pair_parts x1.placed).1,
                  (pair_parts x2.placed).1,
                  (pair_parts x3.placed).1,
                  (pair_parts x4.placed).1,
                  (pair_parts x5.placed).1,
                  (pair_parts x6.placed).1,
                ))
