-- Each call has less of the text before it.
use Rattle.std.proofs.Common.{◌-◌, length}
use Rattle.plans.proofs.reads.+part.Given as goal

abbrev pub decreases-part : goal.decreases-part
decreases-part l = length l.text.now - l.from.at
