-- The adder and readings of the examples, by computation.
use Rattle.std.proofs.Common.{refl}
use Rattle.numbers.specs.Binary as formats
use Rattle.numbers.specs.Nearest as nearest
use Rattle.kinds.specs.Count.{count_worth, count_pattern}
use Rattle.cases.specs.Examples.{OfSums}

pub of_sums : OfSums
unfolding formats.is_number formats.worth formats.pattern nearest.nearest nearest.outcome count_worth count_pattern
of_sums = record { tie = refl; beyond_top = refl; edge = refl; below_edge = refl; once = refl }
