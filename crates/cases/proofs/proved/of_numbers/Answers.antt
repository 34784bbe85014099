use Rattle.cases.proofs.Numbers.{of_numbers}
use Rattle.cases.proofs.proved.of_numbers.Goals as goal

pub returns : goal.returns
returns c = of_numbers
