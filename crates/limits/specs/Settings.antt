-- Document 02, request 7: the five figures that a site sets, "the CSeq jump (1 to 65,535), pending entries (1 to 32), cleanup and timeout (1 to 3,600 s each) and
-- Early cap (1 to 100)", and 30, "a setting outside its bounds".
use Rattle.std.specs.Prelude.{ℕ, Bool, ◌&&◌, not, leb, Option}
use Rattle.limits.specs.Limits.{LimitSet, rust_limits}
use Rattle.limits.specs.Outcome.{cause_if}
use Rattle.limits.specs.declared.Refusal.{Refusal}
use Rattle.limits.specs.declared.Refusal.TheVariants.{SettingOutOfBounds}
use Rattle.limits.specs.declared.settings.Settings.{Settings}

-- n lies from the first figure to the second, both included
abbrev pub from_to : ℕ → ℕ → ℕ → Bool
from_to least most n = leb least n && leb n most

abbrev pub in_bounds : Settings → Bool
in_bounds s =
    from_to 1 65535 s.cseq_jump && (from_to 1 32 s.pending && (from_to 1 3600 s.cleanup_seconds && (from_to 1 3600 s.timeout_seconds && from_to 1 100 s.early_cap)))

-- 30
abbrev pub settings_cause : Settings → Option Refusal
settings_cause s = cause_if (not (in_bounds s)) SettingOutOfBounds

-- a site's set: its five figures, and otherwise the Rust's and document 01's
abbrev pub limits_in : Settings → LimitSet
limits_in s = record {
  text = rust_limits.text;
  listed_store = rust_limits.listed_store;
  call_id = rust_limits.call_id;
  tag = rust_limits.tag;
  uri = rust_limits.uri;
  routes = rust_limits.routes;
  early_per_call_id = s.early_cap;
  dialogs = rust_limits.dialogs;
  cseq = rust_limits.cseq;
  cseq_jump = s.cseq_jump;
  min_expires = rust_limits.min_expires;
  max_expires = rust_limits.max_expires;
  pending = s.pending;
  cleanup = s.cleanup_seconds;
  timeout = s.timeout_seconds;
}

-- the Rust's own five
abbrev pub rust_settings : Settings
rust_settings = record { cseq_jump = 1000; pending = 10; cleanup_seconds = 300; timeout_seconds = 300; early_cap = 100 }
