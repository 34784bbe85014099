use Rattle.std.proofs.Common.{◌≡◌, List, ap, ◌∙◌}
use Rattle.std.proofs.lemmas.Iterator.{YieldsList-from_slice}
use Rattle.std.proofs.lemmas.Iterator.Consumers.{YieldsList-from_copied}
use Rattle.kinds.specs.Answer.{answered}
use Rattle.accounts.specs.Entries.{sum_of, accepted}
use Rattle.accounts.specs.declared.readings.Entry.{Entry}
use Rattle.accounts.proofs.Entries.{drained, readings_alike}
use Rattle.accounts.proofs.readings.readings.Goals as goal

pub returns-clause-alike : goal.returns-clause-alike
returns-clause-alike g c =
    let k = g.K.Kind in
    let one = c.reading.ensures in
    let other = c.reading-2.ensures in
    let first : one.0 ≡ c.args.first.now = drained one.0 one.1 (YieldsList-from_copied (YieldsList-from_slice c.args.first.now cc)) in
    let second : other.0 ≡ c.args.second.now = drained other.0 other.1 (YieldsList-from_copied (YieldsList-from_slice c.args.second.now cc)) in
    readings_alike k _ _ _ _ _ _
    (one.2 ∙ ap (λ (es : List Entry). answered (k.outcome (sum_of (accepted k (g.A.Account.agreed c.args.one) es)))) first)
    (other.2 ∙ ap (λ (es : List Entry). answered (k.outcome (sum_of (accepted k (g.B.Account.agreed c.args.other) es)))) second)
