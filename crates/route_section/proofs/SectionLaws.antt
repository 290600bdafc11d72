-- The routes' section: what the filled bytes are, and its size, which is the same in either order. Assumes nothing.
use Prim.Native.Nat.{ℕ, suc, ◌+◌, ◌-◌, ◌≤◌, ◌<◌}
use native.Mathlib.Nat.{add-zero, zero-add}
use native.Mathlib.Omega.{arith}
use mathlib.Core.Path.{◌≡◌, refl, sym, ap, ◌∙◌}
use mathlib.Core.Bool.{Bool, true, false}
use mathlib.Core.List.{List, [], ◌∷◌, ◌++◌, map, reverse, reverse-cons, append_assoc, append-nil}
use lib.ListN.{length, take, drop, length-append, length-map, length-reverse, length-drop, drop_of_length-le}
use lib.Dec.{eqb, leb}
use borrow.Author.Tests.{eqb-true, eqb-false}
use lib.Seq.{drop_at, length-take-le}
use Rattle.std.specs.Prelude.{cond, Err, None, Ok, Option, Result, Some}
use Rattle.limits.specs.Limits.{rust_limits}
use Rattle.limits.specs.Outcome.{refuse_if, and_then}
use Rattle.limits.specs.declared.Refusal.{Refusal}
use Rattle.limits.specs.declared.Refusal.TheVariants.{UriTooLong}
use Rattle.limits.proofs.Laws.{ok_pair}
use Rattle.text.specs.Text.{Piece, moved_piece}
use Rattle.uri.specs.SipUri.{over_estimate}
use Rattle.uri.specs.HeaderUri.{ReadUri, header_uri}
use Rattle.edit.specs.Edit.{put_at}
use Rattle.edit.proofs.EditLaws.{put_nothing, put_put, put_before}
use Rattle.codec.specs.Codec.{text, write_all}
use Rattle.record.specs.Record.{uri_text}
use Rattle.codec.proofs.SizeLaws.{text_size}
use Rattle.route_set.specs.Routes.{route_before, with_element, routes_from, routes_of, route_elements, in_order}
use Rattle.route_section.specs.Section.{section_of, route_texts, section_in, section_from}
use Rattle.route_section.specs.Filling.{Filling, text_put, with_text, fill_element, filled}
use Rattle.route_section.proofs.FillingLaws.{text_put_lem}

-- ---- the texts of routes, one after another

abbrev texts_of : List Piece → List (List ℕ)
texts_of ps = map (λ (p : Piece). p.text) ps

abbrev bytes_of : List Piece → List ℕ
bytes_of ps = write_all uri_text (texts_of ps)

bytes_append : (ps qs : List Piece) → bytes_of (ps ++ qs) ≡ bytes_of ps ++ bytes_of qs
unfolding write_all
bytes_append [] qs = refl
bytes_append (p ∷ ps) qs = rw (bytes_append ps qs, append_assoc (text.write p.text) (bytes_of ps) (bytes_of qs))

bytes_one : (p : Piece) → bytes_of (p ∷ []) ≡ text.write p.text
unfolding write_all
bytes_one p = append-nil (text.write p.text)

bytes_cons : (p : Piece) (ps : List Piece) → length (bytes_of (p ∷ ps)) ≡ 2 + length p.text + length (bytes_of ps)
unfolding write_all
bytes_cons p ps = omega (arith, length-append (text.write p.text) (bytes_of ps), text_size p.text)

-- reversed, the first comes last
bytes_back : (p : Piece) (ps : List Piece) → bytes_of (reverse (p ∷ ps)) ≡ bytes_of (reverse ps) ++ text.write p.text
bytes_back p ps = ap bytes_of (reverse-cons p ps) ∙ bytes_append (reverse ps) (p ∷ []) ∙ ap (λ (t : List ℕ). bytes_of (reverse ps) ++ t) (bytes_one p)

back_long : (ps : List Piece) → length (bytes_of (reverse ps)) ≡ length (bytes_of ps)
back_long [] = refl
back_long (p ∷ ps) =
    let e : length (bytes_of (reverse (p ∷ ps))) ≡ length (bytes_of (reverse ps) ++ text.write p.text) = ap length (bytes_back p ps) in
    omega (arith, e, length-append (bytes_of (reverse ps)) (text.write p.text), text_size p.text, back_long ps, bytes_cons p ps)

order_long : (reversed : Bool) (ps : List Piece) → length (bytes_of (in_order reversed ps)) ≡ length (bytes_of ps)
order_long true ps = back_long ps
order_long false ps = refl

pub texts_count : (reversed : Bool) (ps : List Piece) → length (route_texts reversed ps) ≡ length ps
texts_count true ps = length-map (reverse ps) _ ∙ length-reverse ps
texts_count false ps = length-map ps _

-- ---- the section

section_some : (ts : List (List ℕ)) → 0 < length ts → section_of ts ≡ length ts ∷ write_all uri_text ts
section_some [] h = absurd (omega arith)
section_some (t ∷ ts) h = refl

-- a route or more: the count, then the texts
pub section_filled : (reversed : Bool) (ps : List Piece) → 0 < length ps → section_of (route_texts reversed ps) ≡ length ps ∷ bytes_of (in_order reversed ps)
section_filled reversed ps h = section_some (route_texts reversed ps) (omega (arith, texts_count reversed ps)) ∙ ap (λ (n : ℕ). n ∷ bytes_of (in_order reversed ps)) (texts_count reversed ps)

-- no routes
pub section_none : (reversed : Bool) (ps : List Piece) → length ps ≡ 0 → section_of (route_texts reversed ps) ≡ []
section_none true [] e = refl
section_none false [] e = refl
section_none reversed (p ∷ ps) e = absurd (omega arith)

-- the section is as long in either order
pub section_size : (reversed : Bool) (ps : List Piece) → length (section_of (route_texts reversed ps)) ≡ length (section_of (route_texts false ps))
section_size reversed [] = ap length (section_none reversed [] refl)
section_size reversed (p ∷ ps) = ap length (section_filled reversed (p ∷ ps) (omega arith)) ∙ ap suc (order_long reversed (p ∷ ps)) ∙ sym (ap length (section_filled false (p ∷ ps) (omega arith)))

pub section_in_size : (reversed : Bool) (o : Result (List Piece) Refusal) → length (section_in reversed o) ≡ length (section_in false o)
section_in_size reversed (Err cause) = refl
section_in_size reversed (Ok ps) = section_size reversed ps

-- what was measured is the size in either order
pub measured_size : (reversed : Bool) (block : List ℕ) {count size : ℕ} → section_from (routes_of rust_limits block) ≡ Ok (count, size) → size ≡ length (section_in reversed (routes_of rust_limits block))
measured_size reversed block {count} {size} e = by (routes_of rust_limits block) e
  where
    by : (o : Result (List Piece) Refusal) → section_from o ≡ Ok (count, size) → size ≡ length (section_in reversed o)
    by (Err cause) h = absurd (let z : ◌≡◌ {A = ℕ} 0 1 = cc in omega arith)
    by (Ok ps) h = sym (ok_pair h).1 ∙ sym (section_size reversed ps)

-- ---- what is held after routes

unfoldable pub with_all : Bool → Filling → List Piece → Filling
with_all reversed f [] = f
with_all reversed f (p ∷ ps) = with_all reversed (with_text reversed p.text f) ps

-- one route more
all_before : (reversed : Bool) (f : Filling) (p : Piece) (o : Result (List Piece) Refusal) → and_then (route_before p o) (λ ps. Ok (with_all reversed f ps)) ≡ and_then o (λ ps. Ok (with_all reversed (with_text reversed p.text f) ps))
unfolding with_all
all_before reversed f p (Err cause) = refl
all_before reversed f p (Ok ps) = refl

filled_is : (reversed : Bool) (es : List Piece) (f : Filling) → filled rust_limits reversed f es ≡ and_then (routes_from rust_limits f.count es) (λ ps. Ok (with_all reversed f ps))
unfolding filled routes_from with_all
filled_is reversed [] f = refl
filled_is reversed (e ∷ es) f = by (leb 50 f.count) refl (filled_is reversed es)
  where
    by : (t : Bool) → leb 50 f.count ≡ t → ((g : Filling) → filled rust_limits reversed g es ≡ and_then (routes_from rust_limits g.count es) (λ ps. Ok (with_all reversed g ps)))
        → filled rust_limits reversed f (e ∷ es) ≡ and_then (routes_from rust_limits f.count (e ∷ es)) (λ ps. Ok (with_all reversed f ps))
    by true t ih = rw t
    by false t ih = rw t (of (header_uri e.text))
      where
        of : (o : Option ReadUri) → fill_element rust_limits o (filled rust_limits reversed f es) (λ w. filled rust_limits reversed (with_text reversed w f) es)
            ≡ and_then (with_element rust_limits e.place o (routes_from rust_limits f.count es) (routes_from rust_limits (f.count + 1) es)) (λ ps. Ok (with_all reversed f ps))
        of None = ih f
        of (Some r) = size (over_estimate rust_limits r.uri)
          where
            p : Piece
            p = moved_piece e.place r.piece

            size : (b : Bool) → refuse_if b UriTooLong (filled rust_limits reversed (with_text reversed r.piece.text f) es)
                ≡ and_then (refuse_if b UriTooLong (route_before p (routes_from rust_limits (f.count + 1) es))) (λ ps. Ok (with_all reversed f ps))
            size true = refl
            size false = ih (with_text reversed r.piece.text f) ∙ sym (all_before reversed f p (routes_from rust_limits (f.count + 1) es))

all_count : (reversed : Bool) (ps : List Piece) (f : Filling) → (with_all reversed f ps).count ≡ f.count + length ps
unfolding with_all
all_count reversed [] f = sym (add-zero f.count)
all_count reversed (p ∷ ps) f = omega (arith, all_count reversed ps (with_text reversed p.text f))

all_size : (reversed : Bool) (ps : List Piece) (f : Filling) → (with_all reversed f ps).size ≡ f.size + length (bytes_of ps)
unfolding with_all write_all
all_size reversed [] f = sym (add-zero f.size)
all_size reversed (p ∷ ps) f = omega (arith, all_size reversed ps (with_text reversed p.text f), bytes_cons p ps)

-- ---- the bytes

put_long : (at : ℕ) (a bytes : List ℕ) → at + length a ≤ length bytes → length (put_at at a bytes) ≡ length bytes
put_long at a bytes h =
    omega (arith, length-append (take at bytes) (a ++ drop (at + length a) bytes), length-append a (drop (at + length a) bytes), length-take-le at bytes (omega arith), length-drop (at + length a) bytes)

-- as received: from byte 1 on
bytes_onward : (ps : List Piece) (f : Filling) → 1 + f.size + length (bytes_of ps) ≤ length f.bytes → (with_all false f ps).bytes ≡ put_at (1 + f.size) (bytes_of ps) f.bytes
unfolding with_all write_all
bytes_onward [] f h = sym (put_nothing (1 + f.size) f.bytes)
bytes_onward (p ∷ ps) f h = go (bytes_onward ps (with_text false p.text f))
  where
    t : List ℕ
    t = text.write p.text

    go : (1 + (f.size + (2 + length p.text)) + length (bytes_of ps) ≤ length (text_put false f.size p.text f.bytes) → (with_all false (with_text false p.text f) ps).bytes ≡ put_at (1 + (f.size + (2 + length p.text))) (bytes_of ps) (text_put false f.size p.text f.bytes))
        → (with_all false f (p ∷ ps)).bytes ≡ put_at (1 + f.size) (bytes_of (p ∷ ps)) f.bytes
    go ih =
        let k = bytes_cons p ps in
        let w : put_at (1 + f.size) t f.bytes ≡ text_put false f.size p.text f.bytes = text_put_lem false f.size p.text f.bytes (omega arith) in
        let l : length (text_put false f.size p.text f.bytes) ≡ length f.bytes = ap length (sym w) ∙ put_long (1 + f.size) t f.bytes (omega (arith, text_size p.text)) in
        let m : 1 + (f.size + (2 + length p.text)) ≡ 1 + f.size + length t = omega (arith, text_size p.text) in
        ih (omega arith)
        ∙ ap (λ (b : List ℕ). put_at (1 + (f.size + (2 + length p.text))) (bytes_of ps) b) (sym w)
        ∙ ap (λ (n : ℕ). put_at n (bytes_of ps) (put_at (1 + f.size) t f.bytes)) m
        ∙ put_put (1 + f.size) t (bytes_of ps) f.bytes (omega arith)

-- reversed: up to the end
bytes_backward : (ps : List Piece) (f : Filling) → 1 + f.size + length (bytes_of ps) ≤ length f.bytes → (with_all true f ps).bytes ≡ put_at (length f.bytes - f.size - length (bytes_of ps)) (bytes_of (reverse ps)) f.bytes
unfolding with_all write_all
bytes_backward [] f h = sym (put_nothing (length f.bytes - f.size - 0) f.bytes)
bytes_backward (p ∷ ps) f h = go (bytes_backward ps (with_text true p.text f))
  where
    t : List ℕ
    t = text.write p.text

    go : (1 + (f.size + (2 + length p.text)) + length (bytes_of ps) ≤ length (text_put true f.size p.text f.bytes)
        → (with_all true (with_text true p.text f) ps).bytes ≡ put_at (length (text_put true f.size p.text f.bytes) - (f.size + (2 + length p.text)) - length (bytes_of ps)) (bytes_of (reverse ps)) (text_put true f.size p.text f.bytes))
        → (with_all true f (p ∷ ps)).bytes ≡ put_at (length f.bytes - f.size - length (bytes_of (p ∷ ps))) (bytes_of (reverse (p ∷ ps))) f.bytes
    go ih =
        let k = bytes_cons p ps in
        let o : ℕ = length f.bytes - f.size - (2 + length p.text) in
        let at : ℕ = length f.bytes - f.size - length (bytes_of (p ∷ ps)) in
        let w : put_at o t f.bytes ≡ text_put true f.size p.text f.bytes = text_put_lem true f.size p.text f.bytes (omega arith) in
        let l : length (text_put true f.size p.text f.bytes) ≡ length f.bytes = ap length (sym w) ∙ put_long o t f.bytes (omega (arith, text_size p.text)) in
        let m : length (text_put true f.size p.text f.bytes) - (f.size + (2 + length p.text)) - length (bytes_of ps) ≡ at = omega arith in
        let n : o ≡ at + length (bytes_of (reverse ps)) = omega (arith, back_long ps) in
        ih (omega arith)
        ∙ ap (λ (i : ℕ). put_at i (bytes_of (reverse ps)) (text_put true f.size p.text f.bytes)) m
        ∙ ap (λ (b : List ℕ). put_at at (bytes_of (reverse ps)) b) (sym w ∙ ap (λ (i : ℕ). put_at i t f.bytes) n)
        ∙ put_before at (bytes_of (reverse ps)) t f.bytes (omega (arith, back_long ps))
        ∙ ap (λ (s : List ℕ). put_at at s f.bytes) (sym (bytes_back p ps))

-- the texts in their order, over bytes that have room for them and the count and no more
bytes_in_order : (reversed : Bool) (ps : List Piece) (bytes : List ℕ) → length bytes ≡ 1 + length (bytes_of ps) → (with_all reversed (record { count = 0; size = 0; bytes = bytes }) ps).bytes ≡ put_at 1 (bytes_of (in_order reversed ps)) bytes
bytes_in_order true ps bytes h =
    let k : length bytes - 0 - length (bytes_of ps) ≡ 1 = omega arith in
    bytes_backward ps (record { count = 0; size = 0; bytes = bytes }) (omega arith) ∙ ap (λ (n : ℕ). put_at n (bytes_of (reverse ps)) bytes) k
bytes_in_order false ps bytes h = bytes_onward ps (record { count = 0; size = 0; bytes = bytes }) (omega arith)

-- the count put before them
count_put : (n : ℕ) (w bytes : List ℕ) → length bytes ≡ 1 + length w → put_at 0 (n ∷ []) (put_at 1 w bytes) ≡ n ∷ w
count_put n w bytes h =
    let x : drop 1 (take 1 bytes ++ (w ++ drop (1 + length w) bytes)) ≡ w ++ drop (1 + length w) bytes = drop_at (take 1 bytes) (w ++ drop (1 + length w) bytes) 1 (length-take-le 1 bytes (omega arith)) in
    let y : drop (1 + length w) bytes ≡ [] = drop_of_length-le bytes {i = 1 + length w} (omega arith) in
    rw (x, y, append-nil w)

-- where the section has no bytes, none are to be written
pub nothing_written : (s after : List ℕ) → s ≡ [] → length after ≡ length s → after ≡ s
nothing_written s [] e h = sym e
nothing_written s (x ∷ after) e h = absurd (omega (arith, ap length e))

-- ---- the block's routes

-- the routes that were read, and what is held after them
pub record Read (reversed : Bool) (block bytes : List ℕ) (f : Filling) : Type 0 where
  pub pieces : List Piece
  pub is : routes_of rust_limits block ≡ Ok pieces
  pub held : with_all reversed (record { count = 0; size = 0; bytes = bytes }) pieces ≡ f

module _ (reversed : Bool) (block bytes : List ℕ) where
  pub routes_read : (f : Filling) → filled rust_limits reversed (record { count = 0; size = 0; bytes = bytes }) (route_elements block) ≡ Ok f → Read reversed block bytes f
  routes_read f e = by (routes_of rust_limits block) refl (sym (filled_is reversed (route_elements block) _) ∙ e)
    where
      by : (o : Result (List Piece) Refusal) → routes_of rust_limits block ≡ o → and_then o (λ ps. Ok (with_all reversed (record { count = 0; size = 0; bytes = bytes }) ps)) ≡ Ok f → Read reversed block bytes f
      by (Err cause) q h = absurd (let z : ◌≡◌ {A = ℕ} 0 1 = cc in omega arith)
      by (Ok ps) q h = record { pieces = ps; is = q; held = (cc) }

  pub routes_refused : (cause : Refusal) → filled rust_limits reversed (record { count = 0; size = 0; bytes = bytes }) (route_elements block) ≡ Err cause → routes_of rust_limits block ≡ Err cause
  routes_refused cause e = by (routes_of rust_limits block) (sym (filled_is reversed (route_elements block) _) ∙ e)
    where
      by : (o : Result (List Piece) Refusal) → and_then o (λ ps. Ok (with_all reversed (record { count = 0; size = 0; bytes = bytes }) ps)) ≡ Err cause → o ≡ Err cause
      by (Err own) h = let q : own ≡ cause = cc in ap Err q
      by (Ok ps) h = absurd (let z : ◌≡◌ {A = ℕ} 0 1 = cc in omega arith)

  module _ (f : Filling) (r : Read reversed block bytes f) where
    pub read_count : length r.pieces ≡ f.count
    read_count = sym (zero-add (length r.pieces)) ∙ sym (all_count reversed r.pieces _) ∙ ap (λ (g : Filling). g.count) r.held

    read_size : length (bytes_of r.pieces) ≡ f.size
    read_size = sym (zero-add (length (bytes_of r.pieces))) ∙ sym (all_size reversed r.pieces _) ∙ ap (λ (g : Filling). g.size) r.held

    -- the measured section
    pub measured_none : f.count ≡ 0 → Ok (0, 0) ≡ section_from (routes_of rust_limits block)
    measured_none e =
        let k : length r.pieces ≡ 0 = read_count ∙ e in
        rw (r.is, section_none false r.pieces k, k)

    pub measured_some : 0 < f.count → Ok (f.count, 1 + f.size) ≡ section_from (routes_of rust_limits block)
    measured_some h =
        let s : length (section_of (route_texts false r.pieces)) ≡ 1 + f.size = omega (arith, ap length (section_filled false r.pieces (omega (arith, read_count))), read_size) in
        rw (r.is, s, read_count)

    pub measured_same : Ok (f.count, cond (eqb f.count 0) 0 (1 + f.size)) ≡ section_from (routes_of rust_limits block)
    measured_same = by (eqb f.count 0) refl
      where
        by : (t : Bool) → eqb f.count 0 ≡ t → Ok (f.count, cond t 0 (1 + f.size)) ≡ section_from (routes_of rust_limits block)
        by true q = let z : f.count ≡ 0 = eqb-true _ _ q in ap (λ (n : ℕ). Ok (n, 0)) z ∙ measured_none z
        by false q = let k : f.count ≡ 0 → ⊥ = eqb-false f.count 0 q in measured_some (omega arith)

    -- the written section
    pub unwritten : f.count ≡ 0 → section_in reversed (routes_of rust_limits block) ≡ []
    unwritten e = ap (section_in reversed) r.is ∙ section_none reversed r.pieces (read_count ∙ e)

    written_is : 0 < f.count → section_in reversed (routes_of rust_limits block) ≡ length r.pieces ∷ bytes_of (in_order reversed r.pieces)
    written_is e = ap (section_in reversed) r.is ∙ section_filled reversed r.pieces (omega (arith, read_count))

    pub room : length bytes ≡ length (section_in reversed (routes_of rust_limits block)) → 0 < f.count → 1 ≤ length bytes
    room h e = omega (arith, h, ap length (written_is e))

    pub written_some : length bytes ≡ length (section_in reversed (routes_of rust_limits block)) → 0 < f.count → put_at 0 (f.count ∷ []) f.bytes ≡ section_in reversed (routes_of rust_limits block)
    written_some h e =
        let s = written_is e in
        let l : length bytes ≡ 1 + length (bytes_of (in_order reversed r.pieces)) = omega (arith, h, ap length s) in
        let b : f.bytes ≡ put_at 1 (bytes_of (in_order reversed r.pieces)) bytes = ap (λ (g : Filling). g.bytes) (sym r.held) ∙ bytes_in_order reversed r.pieces bytes (omega (arith, l, order_long reversed r.pieces)) in
        ap (λ (t : List ℕ). put_at 0 (f.count ∷ []) t) b ∙ count_put f.count (bytes_of (in_order reversed r.pieces)) bytes l ∙ ap (λ (m : ℕ). m ∷ bytes_of (in_order reversed r.pieces)) (sym read_count) ∙ sym s
