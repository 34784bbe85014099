-- A part with nothing owed behind it is the whole plan.
use Rattle.std.proofs.lemmas.Result.{err_from_is_err_and}
use Rattle.plans.proofs.Whole.{refused, granted}
use Rattle.plans.proofs.reads.whole_plan.Goals as goal

pub returns-in_err-part : goal.returns-in_err-part
returns-in_err-part c =
    let r = err_from_is_err_and c.from_residual.result c.from_residual.ensures.1 in
    rw (r.1, r.2) (refused c.args.dots c.args.text.now _ c.in_err-part.ensures)

pub returns : goal.returns
returns c = granted c.args.dots c.args.text.now _ c.requires.1.1 c.in_ok-part.ensures
