-- Columns written one after another make a line. Assumes nothing.
use Prim.Native.Nat.{ℕ, ◌+◌, ◌≤◌}
use native.Mathlib.Nat.{zero-add}
use native.Mathlib.Omega.{arith}
use mathlib.Core.Path.{◌≡◌, sym, ap, subst, ◌∙◌}
use mathlib.Core.Bool.{Bool}
use mathlib.Core.List.{List, [], ◌∷◌, ◌++◌, append_assoc}
use lib.ListN.{length, length-append}
use Rattle.edit.specs.Edit.{put_at, over}
use Rattle.edit.proofs.EditLaws.{wrote_then, wrote_three}
use Rattle.record.specs.Record.{Numbers}
use Rattle.listing_lines.specs.Listing.{columns_of, line_of}
use Rattle.listing_lines.specs.Steps.{head_part, sequence_part, interval_part}

-- a text and the byte after it, where the text is a column of at most m bytes
pub column : (at m v : ℕ) (piece s bytes : List ℕ) {r : ℕ} {o : List ℕ} → piece ≡ s → length piece ≤ m → r ≡ at + length piece + 1 → o ≡ put_at at (piece ++ (v ∷ [])) bytes
    → ((r ≡ at + length (s ++ (v ∷ []))) × (r ≤ at + (m + 1))) × (o ≡ put_at at (s ++ (v ∷ [])) bytes)
column at m v piece s bytes {r} {o} e h p q =
    let k : length piece ≡ length s = ap length e in
    ((omega (arith, length-append s (v ∷ [])), omega arith), q ∙ ap (λ (t : List ℕ). put_at at (t ++ (v ∷ [])) bytes) e)

-- three columns, of at most a, b and c bytes
pub three_columns : (at a b c : ℕ) (p q r bytes : List ℕ) {k l m : ℕ} {x y z : List ℕ} → at ≤ length bytes
    → ((k ≡ at + length p) × (k ≤ at + a)) × (x ≡ put_at at p bytes)
    → ((l ≡ k + length q) × (l ≤ k + b)) × (y ≡ put_at k q x)
    → ((m ≡ l + length r) × (m ≤ l + c)) × (z ≡ put_at l r y)
    → ((m ≡ at + length (p ++ (q ++ r))) × (m ≤ at + (a + b + c))) × (z ≡ put_at at (p ++ (q ++ r)) bytes)
three_columns at a b c p q r bytes {k} {l} {m} h d e f =
    let w = wrote_three at p q r bytes h (d.0.0, d.1) (e.0.0, e.1) (f.0.0, f.1) in
    ((w.0, omega (arith, d.0.1, e.0.1, f.0.1)), w.1)

-- nine columns with a space between them
join : (a b c d e f g h i : List ℕ) → line_of (a ∷ b ∷ c ∷ d ∷ e ∷ f ∷ g ∷ h ∷ i ∷ [])
    ≡ (((a ++ (32 ∷ [])) ++ ((b ++ (32 ∷ [])) ++ (c ++ (32 ∷ [])))) ++ (((d ++ (32 ∷ [])) ++ ((e ++ (32 ∷ [])) ++ (f ++ (32 ∷ [])))) ++ ((g ++ (32 ∷ [])) ++ ((h ++ (32 ∷ [])) ++ (i ++ (10 ∷ []))))))
unfolding line_of
join a b c d e f g h i = simp append_assoc

pub line_parts : (position routes : ℕ) (x : Numbers) (uac : Bool)
    → head_part position x.state uac ++ (sequence_part x.local x.remote x.last_ack ++ interval_part x.seconds routes) ≡ line_of (columns_of position x uac routes)
line_parts position routes x uac = sym (join _ _ _ _ _ _ _ _ _)

-- the three parts over the front of the bytes
pub line_written : (position routes : ℕ) (x : Numbers) (uac : Bool) (bytes : List ℕ) {r : ℕ} {o : List ℕ}
    → ((r ≡ 0 + length (head_part position x.state uac ++ (sequence_part x.local x.remote x.last_ack ++ interval_part x.seconds routes))) × (r ≤ 0 + 153))
    × (o ≡ put_at 0 (head_part position x.state uac ++ (sequence_part x.local x.remote x.last_ack ++ interval_part x.seconds routes)) bytes)
    → (r ≡ length (line_of (columns_of position x uac routes))) × ((r ≤ 192) × (o ≡ over (line_of (columns_of position x uac routes)) bytes))
line_written position routes x uac bytes {r} {o} w =
    let s = head_part position x.state uac ++ (sequence_part x.local x.remote x.last_ack ++ interval_part x.seconds routes) in
    let t : r ≡ length s = w.0.0 ∙ zero-add (length s) in
    let u : o ≡ over s bytes = w.1 ∙ rw (zero-add (length s)) in
    subst (λ (l : List ℕ). (r ≡ length l) × ((r ≤ 192) × (o ≡ over l bytes))) (line_parts position routes x uac) (t, (omega (arith, w.0.1), u))

-- a word and a number over the front of the bytes
pub words_written : (w n bytes : List ℕ) {k r : ℕ} {x o : List ℕ}
    → ((k ≡ 0 + length (w ++ (32 ∷ []))) × (k ≤ 0 + 17)) × (x ≡ put_at 0 (w ++ (32 ∷ [])) bytes)
    → ((r ≡ k + length (n ++ (10 ∷ []))) × (r ≤ k + 21)) × (o ≡ put_at k (n ++ (10 ∷ [])) x)
    → (r ≡ length (line_of (w ∷ n ∷ []))) × ((r ≤ 192) × (o ≡ over (line_of (w ∷ n ∷ [])) bytes))
unfolding line_of
words_written w n bytes {k} {r} {x} {o} p q =
    let v = wrote_then 0 (w ++ (32 ∷ [])) (n ++ (10 ∷ [])) bytes (omega arith) (p.0.0, p.1) (q.0.0, q.1) in
    let s = (w ++ (32 ∷ [])) ++ (n ++ (10 ∷ [])) in
    let e : s ≡ w ++ (32 ∷ (n ++ (10 ∷ []))) = append_assoc w (32 ∷ []) (n ++ (10 ∷ [])) in
    let u : o ≡ over s bytes = v.1 ∙ rw (zero-add (length s)) in
    subst (λ (l : List ℕ). (r ≡ length l) × ((r ≤ 192) × (o ≡ over l bytes))) e (v.0 ∙ zero-add (length s), (omega (arith, p.0.1, q.0.1), u))
