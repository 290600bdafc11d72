-- What is read from a block fits a record: numbers of four bytes, and readable URIs that are no longer than the block. Assumes nothing.
use Prim.Native.Nat.{ℕ, ◌≤◌, ◌<◌, ◌^◌}
use native.Mathlib.Omega.{arith}
use mathlib.Core.Path.{◌≡◌, refl, ap, subst}
use mathlib.Core.Bool.{true}
use mathlib.Core.List.{List, [], ◌∷◌}
use lib.ListN.{length}
use Rattle.std.specs.Prelude.{None, Option, Some}
use Rattle.text.specs.Text.{is, trimmed, split, Piece, moved}
use Rattle.text.specs.Number.{read_digits, without_plus}
use Rattle.msg.specs.Block.{value_named}
use Rattle.uri.specs.HeaderUri.{ReadUri, header_uri, piece_of}
use Rattle.uri.proofs.Laws.{Found, found}
use Rattle.uri.proofs.Ports.{read_below}
use Rattle.headers.specs.SessionExpires.{Interval, with_refresher, interval_in, session_expires, expires_name, interval_of, expires_named}
use Rattle.route_set.specs.Routes.{contact_name, uri_in, contact_of}
use Rattle.words.specs.Words.{word_at}
use Rattle.prack_headers.specs.Sequence.{cseq_name, value_text, cseq_number}
use Rattle.record.specs.Record.{is_read, is_readable}
use Rattle.dialog_rules.proofs.PieceLaws.{value_bounded}

-- ---- numbers

-- a CSeq number that was read is one of four bytes
pub cseq_below : (block : List ℕ) (n : ℕ) → cseq_number block ≡ Some n → n < 2 ^ 32
cseq_below block n e = read_below (2 ^ 32) n (without_plus (word_at 0 (value_text cseq_name block))) e

-- whoever refreshes, the seconds are the number that was read
refreshed_below : (o : Option ℕ) (ps : List (List ℕ)) (i : Interval) → ((n : ℕ) → o ≡ Some n → n < 2 ^ 32) → with_refresher o ps ≡ Some i → i.seconds < 2 ^ 32
refreshed_below None ps i h e = absurd (let z : ◌≡◌ {A = ℕ} 0 1 = cc in omega arith)
refreshed_below (Some n) ps i h e = let q : n ≡ i.seconds = cc in omega (arith, q, h n refl)

-- the number is that of the first part
parts_below : (ps : List (List ℕ)) (i : Interval) → interval_in ps ≡ Some i → i.seconds < 2 ^ 32
parts_below [] i e = absurd (let z : ◌≡◌ {A = ℕ} 0 1 = cc in omega arith)
parts_below (p ∷ ps) i e = refreshed_below (read_digits 32 (trimmed p)) ps i (λ n. read_below (2 ^ 32) n (trimmed p)) e

-- an interval that was read is one of four bytes
pub expires_below : (block : List ℕ) (i : Interval) → expires_named block ≡ Some i → i.seconds < 2 ^ 32
unfolding expires_named session_expires
expires_below block i e = by (value_named expires_name block) e
  where
    by : (o : Option Piece) → interval_of o ≡ Some i → i.seconds < 2 ^ 32
    by None e = absurd (let z : ◌≡◌ {A = ℕ} 0 1 = cc in omega arith)
    by (Some v) e = parts_below (split (is 59) v.text) i e

-- ---- URIs

-- a readable URI of at most k bytes
abbrev pub UriWithin : ℕ → List ℕ → Type 0
UriWithin k t = (length t ≤ k) × (is_readable t ≡ true)

-- the URI that was read in a value
pub uri_within : (k : ℕ) (v : List ℕ) (r : ReadUri) → length v ≤ k → header_uri v ≡ Some r → UriWithin k r.piece.text
uri_within k v r h e = let f : Found v r = found v e in (omega (arith, h, f.stands.fits), ap is_read f.reads)

-- the Contact's URI
pub contact_within : (block : List ℕ) (p : Piece) → contact_of block ≡ Some p → UriWithin (length block) p.text
unfolding contact_of
contact_within block p e = by (value_named contact_name block) refl e
  where
    in_value : (v : Piece) (o : Option ReadUri) → header_uri v.text ≡ o → length v.text ≤ length block → moved v.place (piece_of o) ≡ Some p → UriWithin (length block) p.text
    in_value v None q h e = absurd (let z : ◌≡◌ {A = ℕ} 0 1 = cc in omega arith)
    in_value v (Some r) q h e = let s : r.piece.text ≡ p.text = cc in subst (UriWithin (length block)) s (uri_within (length block) v.text r h q)

    by : (o : Option Piece) → value_named contact_name block ≡ o → uri_in o ≡ Some p → UriWithin (length block) p.text
    by None q e = absurd (let z : ◌≡◌ {A = ℕ} 0 1 = cc in omega arith)
    by (Some v) q e = in_value v (header_uri v.text) refl (value_bounded contact_name block v q).0 e
