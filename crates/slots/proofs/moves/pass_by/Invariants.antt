use Rattle.slots.proofs.Standing.{Standing}
use Rattle.slots.proofs.moves.pass_by.Given as goal

abbrev pub invariant-loop-byte : goal.invariant-loop-byte
invariant-loop-byte g l =
    Standing g.K.Kind l.plan l.initial.slots l.initial.column l.byte-index l.next l.held l.pairs l.slots l.column
