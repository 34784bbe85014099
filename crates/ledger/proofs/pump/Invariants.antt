use Rattle.std.proofs.Common.{◌≡◌, length}
use Rattle.ledger.proofs.pump.Given as goal

abbrev pub invariant-loop : goal.invariant-loop
invariant-loop l = length l.buf ≡ 16384
