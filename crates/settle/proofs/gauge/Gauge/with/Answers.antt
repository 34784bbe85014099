use borrow.Author.Needs.{needs}
use Rattle·settle·proofs.Laws.{same}
use Rattle·settle·proofs.gauge.Gauge.with.Needs as need

pub returns : need.returns
returns c = same _ _ (search needs) (search needs)
