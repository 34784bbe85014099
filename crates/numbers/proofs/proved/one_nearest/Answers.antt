use Rattle.numbers.proofs.Signed.{nearest_is, nearest_one}
use Rattle.numbers.proofs.proved.one_nearest.Goals as goal

pub returns : goal.returns
returns c = λ f. record { computed = nearest_is f; only = nearest_one f }
