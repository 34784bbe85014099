use Rattle.slips.proofs.Filling.{Above}
use Rattle.slips.proofs.lodging.fill.Given as goal

abbrev pub invariant-loop-at : goal.invariant-loop-at
invariant-loop-at g l = Above g.K.Kind l.slots l.at

abbrev pub decreases-loop-at : goal.decreases-loop-at
decreases-loop-at g l = l.at
