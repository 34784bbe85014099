-- Two gauges in one.
use Rattle.std.specs.Prelude.{ℕ, ◌+◌, min, max}
use Rattle.std.proofs.Common.{arith}
use Rattle.settle.specs.declared.gauge.Gauge.{Gauge}

-- a count that stops at 2 ^ 32 - 1, and a peak
abbrev pub gauge_with : ℕ → ℕ → Gauge
gauge_with count peak = record { count = min count 4294967295; peak = peak; fits = omega arith }

abbrev pub none_seen : Gauge
none_seen = gauge_with 0 0

-- counts are added, and the larger peak is kept
abbrev pub both : Gauge → Gauge → Gauge
both a b = gauge_with (a.count + b.count) (max a.peak b.peak)
