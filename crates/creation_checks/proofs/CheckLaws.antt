-- The causes of a creation's checks, in their order. Assumes nothing.
use Prim.Native.Nat.{ℕ, ◌≤◌}
use native.Mathlib.Omega.{arith}
use mathlib.Core.Path.{◌≡◌, sym, ap, ◌∙◌}
use mathlib.Core.Bool.{not}
use mathlib.Core.List.{List}
use lib.ListN.{length}
use borrow.Author.Tests.{le-ltb}
use Rattle.std.specs.Prelude.{Err, None, Ok, Option, Result, Some}
use Rattle.limits.specs.Limits.{rust_limits}
use Rattle.limits.specs.Outcome.{cause_if, or_else, check_of}
use Rattle.limits.specs.declared.Refusal.{Refusal}
use Rattle.limits.specs.declared.Refusal.TheVariants.{Malformed}
use Rattle.msg.specs.Block.{is_block, block_cause}
use Rattle.dialog_rules.specs.Creation.{Creation, form_cause}

-- ---- one check after another

pub stopped_first : (a b : Option Refusal) {cause : Refusal} → check_of a ≡ Err cause → Err cause ≡ check_of (or_else a b)
stopped_first None b e = absurd (let z : ◌≡◌ {A = ℕ} 0 1 = cc in omega arith)
stopped_first (Some own) b e = sym e

pub passed_first : (a b : Option Refusal) {x : Result (Unit {0}) Refusal} → check_of a ≡ Ok tt → x ≡ check_of b → x ≡ check_of (or_else a b)
passed_first None b e f = f
passed_first (Some own) b e f = absurd (let z : ◌≡◌ {A = ℕ} 0 1 = cc in omega arith)

-- ---- 2

-- of a block that is not too long
form_only : (b : List ℕ) → length b ≤ 8192 → block_cause rust_limits b ≡ cause_if (not (is_block b)) Malformed
unfolding block_cause
form_only b h = rw (le-ltb 8192 (length b) h)

module _ (g : Creation) (h : length g.request ≤ 8192) where
  pub request_stopped : {cause : Refusal} → check_of (block_cause rust_limits g.request) ≡ Err cause → Err cause ≡ check_of (form_cause g)
  request_stopped e = stopped_first (cause_if (not (is_block g.request)) Malformed) (cause_if (not (is_block g.response)) Malformed) (sym (ap check_of (form_only g.request h)) ∙ e)

  pub request_passed : {x : Result (Unit {0}) Refusal} → length g.response ≤ 8192 → check_of (block_cause rust_limits g.request) ≡ Ok tt → x ≡ check_of (block_cause rust_limits g.response) → x ≡ check_of (form_cause g)
  request_passed k e f = passed_first (cause_if (not (is_block g.request)) Malformed) (cause_if (not (is_block g.response)) Malformed) (sym (ap check_of (form_only g.request h)) ∙ e) (f ∙ ap check_of (form_only g.response k))
