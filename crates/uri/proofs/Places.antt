-- Where the user part and the host of a readable URI stand in its text. Assumes nothing.
use Prim.Native.Nat.{ℕ, zero, suc, ◌+◌, ◌≤◌, ◌<◌}
use native.Mathlib.Omega.{arith}
use mathlib.Core.Path.{◌≡◌, refl, sym, ap}
use mathlib.Core.Bool.{Bool, true, false, cond, not}
use mathlib.Core.List.{List, []}
use lib.ListN.{length, take, drop, length-take, length-drop}
use lib.Seq.{drop-drop}
use lib.Dec.{ltb}
use borrow.Author.Tests.{ltb-true, lt-ltb}
use Rattle.std.specs.Prelude.{None, Option, Some}
use Rattle.std.specs.Option.{unwrap_or}
use Rattle.text.specs.Text.{span, all, other, same, Piece}
use Rattle.text.specs.Answers.{span_of}
use Rattle.uri_bytes.specs.Bytes.{is_uri, ends_host}
use Rattle.uri.specs.SipUri.{sip, sips, begins, has, host_text, is_host_text, port_of, UriParts, with_port, with_host, with_user, with_scheme, sip_uri, user_at, user_from}
use Rattle.uri.proofs.Hosts.{take_own}
use Rattle.uri.proofs.Parts.{starts_fits}
use Rattle.uri.proofs.Cuts.{Stands}

-- both parts stand in the text
pub record PartsStand (s : List ℕ) (p : UriParts) : Type 0 where
  pub user : Stands s p.user
  pub host : Stands s p.host
  -- an empty user part is said to stand at the host
  pub bare : length p.user.text ≡ 0 → p.user.place ≡ p.host.place

front_stands : (s : List ℕ) (at k : ℕ) → at ≤ length s → Stands s (record { place = at; text = take k (drop at s) })
front_stands s at k h = record { fits = omega (arith, length-take k (drop at s), length-drop at s); bytes = take_own k (drop at s) }

-- the host's text, with brackets or without them
text_stands : (s : List ℕ) (at : ℕ) → at ≤ length s → (t : Bool) → begins 91 (drop at s) ≡ t → Stands s (record { place = at; text = host_text (drop at s) })
unfolding host_text
text_stands s at h true f = rw f (front_stands s at (span (other 93) (drop at s) + 1) h)
text_stands s at h false f = rw f (front_stands s at (span (λ b. not (ends_host b)) (drop at s)) h)

-- nothing was read: there is nothing that stands anywhere
nothing : {s : List ℕ} {p : UriParts} → None ≡ Some p → PartsStand s p
nothing e = absurd (let z : ◌≡◌ {A = ℕ} 0 1 = cc in omega arith)

module _ (s : List ℕ) (secure : Bool) {p : UriParts} where
  port_stands : (user host : Piece) (o : Option (Option ℕ)) → (length user.text ≡ 0 → user.place ≡ host.place) → Stands s user → Stands s host → with_port secure user host o ≡ Some p → PartsStand s p
  port_stands user host None b i j e = nothing e
  port_stands user host (Some q) b i j e =
      let w : record { secure = secure; user = user; host = host; port = q } ≡ p = cc in
      rw (← w) (record { user = i; host = j; bare = b })

  host_stands : (user : Piece) (at : ℕ) → at ≤ length s → (length user.text ≡ 0 → user.place ≡ at) → Stands s user → with_host secure user at (drop at s) ≡ Some p → PartsStand s p
  unfolding with_host
  host_stands user at h b i e = by (is_host_text (host_text (drop at s))) e
    where
      host : Piece
      host = record { place = at; text = host_text (drop at s) }

      port : Option (Option ℕ)
      port = port_of (drop (length (host_text (drop at s))) (drop at s))

      by : (t : Bool) → cond t (with_port secure user host port) None ≡ Some p → PartsStand s p
      by true e = port_stands user host port b i (text_stands s at h (begins 91 (drop at s)) refl) e
      by false e = nothing e

  user_stands : (at : ℕ) → at ≤ length s → with_user secure at (drop at s) ≡ Some p → PartsStand s p
  unfolding with_user
  user_stands at h e = by (has 64 (drop at s)) refl e
    where
      n : ℕ
      n = span (other 64) (drop at s)

      user : Piece
      user = record { place = at; text = take n (drop at s) }

      with_user_lem : (t : Bool) → ltb 0 n ≡ t → n < length (drop at s) → cond t (with_host secure user (at + n + 1) (drop (n + 1) (drop at s))) None ≡ Some p → PartsStand s p
      with_user_lem true g l e =
          let j : at + (n + 1) ≡ at + n + 1 = omega arith in
          host_stands user (at + n + 1) (omega (arith, length-drop at s)) (λ z. absurd (omega (arith, z, l, ltb-true 0 n g, length-take n (drop at s)))) (front_stands s at n h) (rw (drop-drop (n + 1) at s, j) at e)
      with_user_lem false g l e = nothing e

      by : (t : Bool) → has 64 (drop at s) ≡ t
          → cond t (cond (ltb 0 n) (with_host secure user (at + n + 1) (drop (n + 1) (drop at s))) None) (with_host secure (record { place = at; text = [] }) at (drop at s)) ≡ Some p → PartsStand s p
      by true f e = with_user_lem (ltb 0 n) refl (ltb-true _ _ f) e
      by false f e = host_stands (record { place = at; text = [] }) at h (λ z. refl) (front_stands s at 0 h) e

pub parts_stand : (s : List ℕ) {p : UriParts} → sip_uri s ≡ Some p → PartsStand s p
unfolding sip_uri with_scheme
parts_stand s {p} e = by (all is_uri s) e
  where
    secure : (t : Bool) → same (take 5 s) sips ≡ t → cond t (with_user true 5 (drop 5 s)) None ≡ Some p → PartsStand s p
    secure true f e = user_stands s true 5 (starts_fits s sips f) e
    secure false f e = nothing e

    scheme : (t : Bool) → same (take 4 s) sip ≡ t → cond t (with_user false 4 (drop 4 s)) (cond (same (take 5 s) sips) (with_user true 5 (drop 5 s)) None) ≡ Some p → PartsStand s p
    scheme true f e = user_stands s false 4 (starts_fits s sip f) e
    scheme false f e = secure (same (take 5 s) sips) refl e

    by : (t : Bool) → cond t (with_scheme s) None ≡ Some p → PartsStand s p
    by true e = scheme (same (take 4 s) sip) refl e
    by false e = nothing e

-- a caller who is told of no user part that it stands, empty, at the host is told where the piece stands
pub user_told : (s : List ℕ) {p : UriParts} → sip_uri s ≡ Some p → unwrap_or (user_from p.user) (record { start = p.host.place; length = 0 }) ≡ span_of p.user
user_told s {p} e = by (length p.user.text) refl
  where
    by : (n : ℕ) → length p.user.text ≡ n → unwrap_or (user_at p.user.place n) (record { start = p.host.place; length = 0 }) ≡ record { start = p.user.place; length = n }
    by zero q = ap (λ (k : ℕ). record { start = k; length = 0 }) (sym ((parts_stand s e).bare q))
    by (suc n) q = rw (lt-ltb 0 (suc n) (omega arith))
