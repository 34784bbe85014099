use Rattle.std.proofs.Common.{arith, take_all}
use Rattle.books.proofs.Theorem.{theorem}
use Rattle.books.proofs.run.run.Goals as goal

pub returns-clause-theorem : goal.returns-clause-theorem
returns-clause-theorem g c =
    let all = take_all c.loop-v.v-index c.args.visits.now (omega arith) in
    let told = rw all at c.loop-v.invariant in
    theorem g.K.Kind g.met.K.Kind.lawful g.L.Account g.R.Account _ _ _ _ _ _ told.answers told.agrees
