-- Steps of the code: lent bytes that are filled with the routes' texts while the lines are read, and what is counted meanwhile. Reversed they are filled from
-- the end. A text that finds no room is counted all the same.
use Rattle.std.specs.Prelude.{ℕ, ◌+◌, ◌-◌, ◌*◌, ◌≤◌, ◌≡◌, Bool, true, false, cond, List, [], ◌∷◌, length, leb, Err, None, Ok, Option, Result, Some}
use Rattle.limits.specs.Limits.{LimitSet}
use Rattle.limits.specs.Outcome.{refuse_if}
use Rattle.limits.specs.declared.Refusal.{Refusal}
use Rattle.limits.specs.declared.Refusal.TheVariants.{UriTooLong, RouteSetTooLarge}
use Rattle.text.specs.Text.{Piece}
use Rattle.uri.specs.SipUri.{over_estimate}
use Rattle.uri.specs.HeaderUri.{ReadUri, header_uri}
use Rattle.edit.specs.Edit.{put_at}
use Rattle.codec.specs.Codec.{text}

-- how many routes are held, the bytes of their texts with the length bytes, and the lent bytes
pub record Filling : Type 0 where
  pub count : ℕ
  pub size : ℕ
  pub bytes : List ℕ

-- where a text of k bytes goes among n, when `size` bytes of texts are held: byte 0 is the count's
abbrev pub place_for : Bool → ℕ → ℕ → ℕ → ℕ
place_for true n size k = n - size - k
place_for false n size k = 1 + size

-- the bytes with one text more, if there is room for it and the count
abbrev pub text_put : Bool → ℕ → List ℕ → List ℕ → List ℕ
text_put reversed size t bytes = cond (leb (1 + size + (2 + length t)) (length bytes)) (put_at (place_for reversed (length bytes) size (2 + length t)) (text.write t) bytes) bytes

abbrev pub with_text : Bool → List ℕ → Filling → Filling
with_text reversed t f = record { count = f.count + 1; size = f.size + (2 + length t); bytes = text_put reversed f.size t f.bytes }

-- r is the URI of an element, if it is readable; then the rest, without it or with its text
abbrev pub fill_element : LimitSet → Option ReadUri → Result Filling Refusal → (List ℕ → Result Filling Refusal) → Result Filling Refusal
fill_element L None skipped more = skipped
fill_element L (Some r) skipped more = refuse_if (over_estimate L r.uri) UriTooLong (more r.piece.text)

-- what is held after the elements
unfoldable pub filled : LimitSet → Bool → Filling → List Piece → Result Filling Refusal
filled L reversed f [] = Ok f
filled L reversed f (e ∷ es) =
    refuse_if (leb L.routes f.count) RouteSetTooLarge
    (fill_element L (header_uri e.text) (filled L reversed f es) (λ t. filled L reversed (with_text reversed t f) es))

-- what the code answers, and the lent bytes after it: nothing is said of them where the routes are refused
abbrev pub Answered : Result Filling Refusal → Result (ℕ × ℕ) Refusal → List ℕ → Type 0
Answered (Err cause) r bytes = r ≡ Err cause
Answered (Ok f) r bytes = (r ≡ Ok (f.count, f.size)) × (bytes ≡ f.bytes)

-- each text is a part of a block
abbrev pub Bounded : Result (ℕ × ℕ) Refusal → Type 0
Bounded (Ok (count, size)) = (count ≤ 50) × (size ≤ count * 8194)
Bounded (Err cause) = Unit {0}
