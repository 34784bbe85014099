use Rattle.binary.proofs.Fields.{patterned}
use Rattle.binary.proofs.patterns.worth.Goals as goal

pub returns-then-field-eq0-clause-patterns : goal.returns-then-field-eq0-clause-patterns
returns-then-field-eq0-clause-patterns g c = patterned g.B.Binary.format g.B.Binary.FRACTION g.B.Binary.layout

pub returns-clause-patterns : goal.returns-clause-patterns
returns-clause-patterns g c = patterned g.B.Binary.format g.B.Binary.FRACTION g.B.Binary.layout
