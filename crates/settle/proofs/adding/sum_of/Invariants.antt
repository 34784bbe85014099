use Rattle.std.proofs.Common.{◌≡◌, take}
use Rattle.register.specs.Value.{value}
use Rattle.register.specs.Wrap.{wrap}
use Rattle.slots.specs.Pass.{exact_sum}
use Rattle.settle.proofs.adding.sum_of.Given as goal

abbrev pub invariant-loop-p : goal.invariant-loop-p
invariant-loop-p g l = value l.sum ≡ wrap (exact_sum g.K.Kind (take l.p-index l.numbers))
