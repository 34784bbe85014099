use Rattle.std.proofs.Common.{rules}
use Rattle.binary.proofs.Added.{is_adder, sums}
use Rattle.binary.proofs.adder.add.Goals as goal

pub returns : goal.returns
returns g c = let lay = g.B.Binary.layout in record { value = search (rules, is_adder); relation = search (rules, sums) }
