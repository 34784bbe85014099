-- Each call has a digit less.
use Rattle.forms.proofs.writes.+hex.Given as goal

abbrev pub decreases-hex : goal.decreases-hex
decreases-hex l = l.digits
