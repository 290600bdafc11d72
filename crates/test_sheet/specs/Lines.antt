-- Document 01, "Lines from the test sheet": the twelve lines marked P, in its order, each as a statement about the definitions that
-- the contracts cite; that of the display name as document 02, request 3, has it. The names of the fields count the lines; a comment
-- quotes each.
use Rattle.std.specs.Prelude.{ℕ, ◌-◌, ◌≡◌, true, false, List, [], ◌∷◌, Err, Ok, Some}
use Rattle.limits.specs.Limits.{rust_limits}
use Rattle.limits.specs.Refusal.{number_of}
use Rattle.limits.specs.declared.Refusal.TheVariants.{MissingHeader, CSeqTooLarge, InvalidCSeq, CSeqJumpTooLarge, SessionExpiresTooSmall}
use Rattle.text.specs.Number.{read_number}
use Rattle.headers.specs.Tag.{tag_of}
use Rattle.prack_headers.specs.Sequence.{extract_cseq_number}
use Rattle.session_timer_manager.specs.Intervals.{seconds, refresh_due, non_refresher_expiry, negotiated}
use Rattle.record.specs.Record.{Numbers}
use Rattle.record.specs.Rules.{other, with_remote, request_step}

-- `"a;tag=x" <sip:r@h>;tag=y`
abbrev pub quoted_tag : List ℕ
quoted_tag = 34 ∷ 97 ∷ 59 ∷ 116 ∷ 97 ∷ 103 ∷ 61 ∷ 120 ∷ 34 ∷ 32 ∷ 60 ∷ 115 ∷ 105 ∷ 112 ∷ 58 ∷ 114 ∷ 64 ∷ 104 ∷ 62 ∷ 59 ∷ 116 ∷ 97 ∷ 103 ∷ 61 ∷ 121 ∷ []

-- `CSeq:-0` CRLF
abbrev pub minus_zero : List ℕ
minus_zero = 67 ∷ 83 ∷ 101 ∷ 113 ∷ 58 ∷ 45 ∷ 48 ∷ 13 ∷ 10 ∷ []

pub record TestSheet : Type 0 where
  -- "remote 7: 1,007 taken"
  pub line1 : (x : Numbers) → request_step rust_limits other 1007 (with_remote 7 x) ≡ Ok (with_remote 1007 x)
  -- "1,008: 12"
  pub line2 : (x : Numbers) → request_step rust_limits other 1008 (with_remote 7 x) ≡ Err CSeqJumpTooLarge
  -- "7: 11"
  pub line3 : (x : Numbers) → request_step rust_limits other 7 (with_remote 7 x) ≡ Err InvalidCSeq
  -- "remote 0: 2,147,483,647 taken"
  pub line4 : (x : Numbers) → request_step rust_limits other 2147483647 (with_remote 0 x) ≡ Ok (with_remote 2147483647 x)
  -- "one more: 10"
  pub line5 : (x : Numbers) → request_step rust_limits other 2147483648 (with_remote 0 x) ≡ Err CSeqTooLarge
  -- "`+5` reads 5"
  pub line6 : read_number 32 (43 ∷ 53 ∷ []) ≡ Some 5
  -- "`-0`: 4"
  pub line7 : extract_cseq_number rust_limits minus_zero ≡ Err MissingHeader
  -- `"a;tag=x" <sip:r@h>;tag=y`: "The sheet's display-name line now has tag `y`" (document 02, request 3; 01 has `x" <sip:r@h>`)
  pub line8 : tag_of quoted_tag ≡ Some (record { place = 24; text = 121 ∷ [] })
  -- "90 s: refresh at 60 s, not 1 ns before"
  pub line9 : (refresh_due (Some 90) (seconds 60) ≡ true) × (refresh_due (Some 90) (seconds 60 - 1) ≡ false)
  -- "300 s: non-refresher expiry 268 s"
  pub line10 : non_refresher_expiry (seconds 300) ≡ seconds 268
  -- "requested 1,800, minima 90 and 120, preference 60: 120"
  pub line11 : negotiated (seconds 1800) (seconds 90) (Some (seconds 120)) (Some (seconds 60)) ≡ Ok (seconds 120)
  -- "requested 100: 13 with 120"
  pub line12 : negotiated (seconds 100) (seconds 90) (Some (seconds 120)) (Some (seconds 60)) ≡ Err (SessionExpiresTooSmall (seconds 120))
  -- the numbers that the lines cite are those of the causes
  pub numbers : (number_of CSeqJumpTooLarge ≡ 12) × (number_of InvalidCSeq ≡ 11) × (number_of CSeqTooLarge ≡ 10) × (number_of MissingHeader ≡ 4) × (number_of (SessionExpiresTooSmall (seconds 120)) ≡ 13)
