use Rattle.std.specs.List.{AllWithin}
use Rattle.accounts.specs.Fleet.{InReach}
use Rattle.accounts.proofs.fleet.all_in_reach.Given as goal

abbrev pub invariant-loop-i : goal.invariant-loop-i
invariant-loop-i l = AllWithin InReach l.registers 0 l.i
