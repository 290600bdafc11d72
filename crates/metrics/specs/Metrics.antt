-- The two counts of metrics.rs. Document 01, "Files": "two counts, stopping at their largest".
-- The Rust adds without a limit: at the largest u64 it panics or wraps, by the build. The port stops there.
use Rattle.std.specs.Prelude.{ℕ, ◌+◌, ◌-◌, ◌^◌, min}
use Rattle.metrics.specs.declared.DialogMetrics.{DialogMetrics}

-- one more, but at most the largest u64
abbrev pub counted : ℕ → ℕ
counted count = min (count + 1) (2 ^ 64 - 1)

-- ---- what each call comes to

abbrev pub none_counted : DialogMetrics
none_counted = record { created = 0; terminated = 0 }

abbrev pub created_counted : DialogMetrics → DialogMetrics
created_counted m = record { created = counted m.created; terminated = m.terminated }

abbrev pub terminated_counted : DialogMetrics → DialogMetrics
terminated_counted m = record { created = m.created; terminated = counted m.terminated }
