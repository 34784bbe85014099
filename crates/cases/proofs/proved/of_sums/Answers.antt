use Rattle.cases.proofs.Sums.{of_sums}
use Rattle.cases.proofs.proved.of_sums.Goals as goal

pub returns : goal.returns
returns c = of_sums
