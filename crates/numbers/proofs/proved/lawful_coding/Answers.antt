use Rattle.numbers.proofs.Laws.{lawful}
use Rattle.numbers.proofs.proved.lawful_coding.Goals as goal

pub returns : goal.returns
returns c = lawful
