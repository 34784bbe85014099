-- Each part has fewer dots.
use Rattle.plans.proofs.writes.+fill.Given as goal

abbrev pub decreases-fill : goal.decreases-fill
decreases-fill l = l.dots
