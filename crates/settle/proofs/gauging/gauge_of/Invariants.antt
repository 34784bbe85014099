use Rattle.std.proofs.Common.{◌≡◌, take}
use Rattle.arrayvec.specs.ArrayVec.{array_vec_len}
use Rattle.settle.proofs.Folded.{Ones}
use Rattle.settle.proofs.gauging.gauge_of.Given as goal

abbrev pub invariant-loop-p : goal.invariant-loop-p
invariant-loop-p g l = (array_vec_len l.gauges ≡ l.p-index) × Ones g.K.Kind (take l.p-index l.numbers) l.gauges.items
