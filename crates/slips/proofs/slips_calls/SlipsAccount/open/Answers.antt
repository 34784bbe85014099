use Rattle.std.proofs.lemmas.List.Elements.{All-replicate}
use Rattle.slots.proofs.Keeps.{Number}
use Rattle.slips.proofs.slips_calls.SlipsAccount.open.Goals as goal

pub invariant_of-result-clause-numbers : goal.invariant_of-result-clause-numbers
invariant_of-result-clause-numbers g c = All-replicate (Number g.K.Kind) 64 0 g.met.K.Kind.lawful.zero.0
