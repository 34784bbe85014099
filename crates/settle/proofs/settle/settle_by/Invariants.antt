use Rattle.std.proofs.Common.{◌≡◌}
use Rattle.settle.proofs.Settling.{Settling}
use Rattle.settle.proofs.settle.settle_by.Given as goal

abbrev pub invariant-loop-passes : goal.invariant-loop-passes
invariant-loop-passes g l = Settling g.K.Kind l.plan l.budget l.initial.slots l.passes l.slots × (l.column ≡ l.initial.column)
