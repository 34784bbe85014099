-- Gauges join.
use Rattle.std.specs.Prelude.{◌≡◌, ◌≤◌}
use mathlib.Core.HLevel.{is_prop→PathP}
use Rattle.std.proofs.Math.Bridge.{le_prop}
use Rattle.std.proofs.Common.{arith}
use Rattle.settle.specs.Both.{none_seen, both}
use Rattle.settle.specs.declared.gauge.Gauge.{Gauge}

pub same : (a b : Gauge) → a.count ≡ b.count → a.peak ≡ b.peak → a ≡ b
same a b e f j = record { count = e j; peak = f j; fits = is_prop→PathP (λ k. e k ≤ 4294967295) (λ k. le_prop) a.fits b.fits j }

pub both_assoc : (a b c : Gauge) → both (both a b) c ≡ both a (both b c)
both_assoc a b c = same _ _ (omega arith) (omega arith)

pub both_comm : (a b : Gauge) → both a b ≡ both b a
both_comm a b = same _ _ (omega arith) (omega arith)

pub both_none : (a : Gauge) → both a none_seen ≡ a
both_none a = same _ _ (omega arith) (omega arith)
