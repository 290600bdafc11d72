-- The listing of a store of at most 65,536 bytes has at most 131,072: a line and 11 bytes more, as many as the total has at most, are no longer
-- than two images of its record. An image has at least 24 bytes and 4 more for each number that stands, its line at most 37 and 8 more for
-- each. Assumes nothing.
use Prim.Native.Nat.{ℕ, suc, ◌+◌, ◌*◌, ◌^◌, ◌≤◌, ◌<◌}
use native.Mathlib.Omega.{arith}
use mathlib.Core.Path.{◌≡◌, refl, sym, ap, ◌∙◌}
use mathlib.Core.Bool.{Bool, true, false, cond, false≢true}
use mathlib.Core.List.{List, [], ◌∷◌, ◌++◌, append-nil}
use lib.ListN.{length, take, drop, length-append, drop_of_length-le}
use lib.Dec.{leb, ltb}
use borrow.Author.Tests.{leb-true, leb-false, ltb-false}
use Rattle.std.specs.Prelude.{None, Option, Some}
use Rattle.text.specs.Text.{all, same, span}
use Rattle.uri_bytes.specs.Bytes.{is_uri}
use Rattle.uri.specs.SipUri.{sip, sips, host_text, is_host_text, with_host, with_user, with_scheme, sip_uri}
use Rattle.uri.proofs.Parts.{starts_fits}
use Rattle.output.specs.Decimal.{decimal_of}
use Rattle.output.proofs.DecimalLaws.{few_digits, ten_digits}
use Rattle.codec.specs.Codec.{write_all}
use Rattle.record.specs.Record.{State, early, confirmed, terminated, Record, is_read, is_readable, bit_of, image, OptionalPart, WellFormed}
use Rattle.record.specs.Store.{encode_all, decode_all}
use Rattle.codec.proofs.CodecLaws.{Bytes}
use Rattle.record.proofs.WellFormedLaws.{image_round}
use Rattle.record.proofs.StoreLaws.{EachFormed, decoded}
use Rattle.image.specs.Places.{number_size, option_size}
use Rattle.image.proofs.SizeLaws.{record_sized}
use Rattle.listing_lines.proofs.HalfLaws.{half_least}
use Rattle.listing_lines.specs.Listing.{state_letter, side_text, or_dash, half_to_even, refresh_second, columns, line_of, lines_from, total_line, listing_of}

-- ---- an image

no_host : with_user false 4 [] ≡ None
unfolding with_user with_host host_text is_host_text span
no_host = refl

-- a URI that can be read has a scheme and a host
uri_least : (t : List ℕ) → is_readable t ≡ true → 5 ≤ length t
unfolding sip_uri with_scheme
uri_least t e = by (all is_uri t) (same (take 4 t) sip) (same (take 5 t) sips) refl refl e
  where
    longer : (b : Bool) → leb (length t) 4 ≡ b → is_read (with_user false 4 (drop 4 t)) ≡ true → 5 ≤ length t
    longer true l e =
        let d : drop 4 t ≡ [] = drop_of_length-le t (leb-true (length t) 4 l) in
        absurd (false≢true (sym (ap (λ (u : List ℕ). is_read (with_user false 4 u)) d ∙ ap is_read no_host) ∙ e))
    longer false l e = omega (arith, leb-false (length t) 4 l)

    by : (a b c : Bool) → same (take 4 t) sip ≡ b → same (take 5 t) sips ≡ c
        → is_read (cond a (cond b (with_user false 4 (drop 4 t)) (cond c (with_user true 5 (drop 5 t)) None)) None) ≡ true → 5 ≤ length t
    by false b c p q e = absurd (false≢true e)
    by true true c p q e = longer (leb (length t) 4) refl e
    by true false true p q e = starts_fits t sips q
    by true false false p q e = absurd (false≢true e)

-- the bytes of the four numbers that are listed
abbrev numbers_size : Record → ℕ
numbers_size r = number_size r.numbers.local + number_size r.numbers.remote + option_size r.numbers.last_ack + option_size r.numbers.seconds

image_least : (r : Record) → WellFormed r → 24 + numbers_size r ≤ length (image.write r)
image_least r w =
    let k = record_sized.ends (image.write r ++ []) (record { value = r; rest = [] }) (image_round r w []) in
    omega (arith, k.1, ap length (append-nil (image.write r)), uri_least r.target w.target.1, uri_least r.local_uri w.local_uri.1, uri_least r.remote_uri w.remote_uri.1)

-- ---- the columns of a line

state_length : (x : State) → length (state_letter x) ≡ 1
state_length early = refl
state_length confirmed = refl
state_length terminated = refl

side_length : (b : Bool) → length (side_text b) ≡ 3
side_length true = refl
side_length false = refl

number_length : (n : ℕ) → n < 2 ^ 32 → length (decimal_of n) ≤ 2 + 2 * number_size n
number_length n h = by (ltb 0 n) refl
  where
    by : (b : Bool) → ltb 0 n ≡ b → length (decimal_of n) ≤ 2 + 2 * (4 * bit_of b)
    by true e = omega (arith, ten_digits n h)
    by false e = omega (arith, few_digits n 0 (omega (arith, ltb-false 0 n e)))

option_length : (o : Option ℕ) → OptionalPart o → length (or_dash o) ≤ 2 + 2 * option_size o
option_length None h = omega arith
option_length (Some n) h = omega (arith, ten_digits n h)

-- the seconds, and half of them
seconds_length : (o : Option ℕ) → OptionalPart o → length (or_dash o) + length (or_dash (refresh_second o)) ≤ 12 + 2 * option_size o
seconds_length None h = omega arith
seconds_length (Some n) h = omega (arith, ten_digits n h, ten_digits (half_to_even n) (omega (arith, h, half_least n)))

-- ---- a line

last_length : (c : List ℕ) → length (line_of (c ∷ [])) ≡ length c + 1
unfolding line_of
last_length c = length-append c (10 ∷ [])

more_length : (c d : List ℕ) (more : List (List ℕ)) → length (line_of (c ∷ d ∷ more)) ≡ length c + 1 + length (line_of (d ∷ more))
unfolding line_of
more_length c d more = omega (arith, length-append c (32 ∷ line_of (d ∷ more)))

nine_length : (a b c d e f g h i : List ℕ) → length (line_of (a ∷ b ∷ c ∷ d ∷ e ∷ f ∷ g ∷ h ∷ i ∷ [])) ≡ length a + length b + length c + length d + length e + length f + length g + length h + length i + 9
nine_length a b c d e f g h i =
    omega (
      arith,
      more_length a b (c ∷ d ∷ e ∷ f ∷ g ∷ h ∷ i ∷ []),
      more_length b c (d ∷ e ∷ f ∷ g ∷ h ∷ i ∷ []),
      more_length c d (e ∷ f ∷ g ∷ h ∷ i ∷ []),
      more_length d e (f ∷ g ∷ h ∷ i ∷ []),
      more_length e f (g ∷ h ∷ i ∷ []),
      more_length f g (h ∷ i ∷ []),
      more_length g h (i ∷ []),
      more_length h i [],
      last_length i,
    )

-- a position below 10,000 has four digits at most, a count of routes two
line_most : (position : ℕ) (r : Record) → WellFormed r → position < 10000 → length (line_of (columns position r)) ≤ 37 + 2 * numbers_size r
line_most position r w h =
    let x = r.numbers in
    omega (
      arith,
      nine_length (decimal_of position) (state_letter x.state) (side_text r.we_are_uac) (decimal_of x.local) (decimal_of x.remote) (or_dash x.last_ack) (or_dash x.seconds) (or_dash (refresh_second x.seconds)) (decimal_of (length r.routes)),
      few_digits position 3 (omega (arith, h)),
      state_length x.state,
      side_length r.we_are_uac,
      number_length x.local w.local,
      number_length x.remote w.remote,
      option_length x.last_ack w.last_ack,
      seconds_length x.seconds w.seconds,
      few_digits (length r.routes) 1 (omega (arith, w.route_count)),
    )

total_most : (n : ℕ) → n < 10000 → length (total_line n) ≤ 11
total_most n h = omega (arith, more_length (116 ∷ 111 ∷ 116 ∷ 97 ∷ 108 ∷ []) (decimal_of n) [], last_length (decimal_of n), few_digits n 3 (omega (arith, h)))

-- ---- the listing

few_records : (rs : List Record) → EachFormed rs → 24 * length rs ≤ length (encode_all rs)
unfolding write_all
few_records [] w = omega arith
few_records (r ∷ rs) w = omega (arith, few_records rs w.1, image_least r w.0, length-append (image.write r) (write_all image rs))

-- two images are 11 bytes longer than a line
lines_most : (position : ℕ) (rs : List Record) → EachFormed rs → position + length rs ≤ 10000 → length (lines_from position rs) + 11 * length rs ≤ 2 * length (encode_all rs)
unfolding lines_from write_all
lines_most position [] w h = omega arith
lines_most position (r ∷ rs) w h =
    omega (
      arith,
      line_most position r w.0 (omega (arith, h)),
      image_least r w.0,
      lines_most (suc position) rs w.1 (omega (arith, h)),
      length-append (line_of (columns position r)) (lines_from (suc position) rs),
      length-append (image.write r) (write_all image rs),
    )

listing_most : (rs : List Record) → EachFormed rs → length (encode_all rs) ≤ 65536 → length (listing_of rs) ≤ 131072
unfolding listing_of lines_from
listing_most [] w h = omega (arith, total_most 0 (omega arith))
listing_most (r ∷ rs) w h =
    let n = few_records (r ∷ rs) w in
    let l = lines_most 1 (r ∷ rs) w (omega (arith, n, h)) in
    let t = total_most (length (r ∷ rs)) (omega (arith, n, h)) in
    omega (arith, h, l, t, length-append (lines_from 1 (r ∷ rs)) (total_line (length (r ∷ rs))))

-- the listing of a store that can be read
pub listing_small : (s : List ℕ) (rs : List Record) → Bytes s → length s ≤ 65536 → decode_all s ≡ Some rs → length (listing_of rs) ≤ 131072
listing_small s rs b h e = let d = decoded s rs b e in listing_most rs d.1 (omega (arith, h, ap length d.0))
