-- The Rust's own settings give its own limits; each figure at its bounds is permitted, and one beyond them isn't; and each is the limit of its name.
-- Assumes nothing.
use mathlib.Core.Path.{◌≡◌, refl}
use mathlib.Core.Bool.{true, false}
use Rattle.std.specs.Prelude.{ℕ}
use Rattle.limits.specs.Limits.{rust_limits}
use Rattle.limits.specs.Settings.{in_bounds, limits_in, rust_settings}
use Rattle.limits.specs.declared.settings.Settings.{Settings}

pub rust_set : limits_in rust_settings ≡ rust_limits
rust_set = refl

-- the five in the order of C's struct
abbrev pub five : ℕ → ℕ → ℕ → ℕ → ℕ → Settings
five j p c t e = record { cseq_jump = j; pending = p; cleanup_seconds = c; timeout_seconds = t; early_cap = e }

pub each_is : ((limits_in (five 1 2 3 4 5)).cseq_jump ≡ 1)
    × (((limits_in (five 1 2 3 4 5)).pending ≡ 2)
    × (((limits_in (five 1 2 3 4 5)).cleanup ≡ 3)
    × (((limits_in (five 1 2 3 4 5)).timeout ≡ 4)
    × ((limits_in (five 1 2 3 4 5)).early_per_call_id ≡ 5))))
each_is = (refl, (refl, (refl, (refl, refl))))

pub least_permitted : in_bounds (five 1 1 1 1 1) ≡ true
least_permitted = refl

pub most_permitted : in_bounds (five 65535 32 3600 3600 100) ≡ true
most_permitted = refl

pub none_below : (in_bounds (five 0 1 1 1 1) ≡ false)
    × ((in_bounds (five 1 0 1 1 1) ≡ false) × ((in_bounds (five 1 1 0 1 1) ≡ false) × ((in_bounds (five 1 1 1 0 1) ≡ false) × (in_bounds (five 1 1 1 1 0) ≡ false))))
none_below = (refl, (refl, (refl, (refl, refl))))

pub none_above : (in_bounds (five 65536 32 3600 3600 100) ≡ false)
    × ((in_bounds (five 65535 33 3600 3600 100) ≡ false)
    × ((in_bounds (five 65535 32 3601 3600 100) ≡ false)
    × ((in_bounds (five 65535 32 3600 3601 100) ≡ false) × (in_bounds (five 65535 32 3600 3600 101) ≡ false))))
none_above = (refl, (refl, (refl, (refl, refl))))
