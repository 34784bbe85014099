use Rattle.std.proofs.Common.{List, ap, ◌∙◌, refl, rules}
use Rattle.std.proofs.lemmas.Iterator.{YieldsList-from_slice, YieldsList-from_map}
use Rattle.kinds.specs.Answer.{answered}
use Rattle.accounts.specs.Entries.{sum_of, accepted}
use Rattle.accounts.specs.declared.readings.Entry.{Entry}
use Rattle.accounts.specs.declared.readings.Entry.TheVariants.{Post}
use Rattle.accounts.proofs.Entries.{drained}
use Rattle.exports.specs.Exports.{marked}
use Rattle.exports.proofs.readings.read.Goals as goal

pub returns : goal.returns
returns g c =
    let k = g.K.Kind in
    let read = c.reading.ensures in
    let posts = drained read.0 read.1 (YieldsList-from_map _ Post (YieldsList-from_slice c.args.patterns.now cc) refl (λ x r q e. search rules)) in
    c.word.ensures ∙ ap marked (read.2 ∙ ap (λ (es : List Entry). answered (k.outcome (sum_of (accepted k (g.A.Account.agreed c.args.setup) es)))) posts)
