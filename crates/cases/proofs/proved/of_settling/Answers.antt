use Rattle.cases.proofs.Settling.{of_settling}
use Rattle.cases.proofs.proved.of_settling.Goals as goal

pub returns : goal.returns
returns c = of_settling
