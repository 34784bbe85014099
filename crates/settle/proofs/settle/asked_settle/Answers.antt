use Rattle.std.proofs.Common.{Err, sym, refl, ap, ◌∙◌, subst}
use Rattle.std.proofs.lemmas.Result.{err_from_is_err_and}
use Rattle.settle.specs.Settle.{SettleAnswer}
use Rattle.settle.proofs.Tested.{tells}
use Rattle.settle.proofs.settle.asked_settle.Goals as goal

pub returns-in_err-asked : goal.returns-in_err-asked
returns-in_err-asked g c =
    let p = err_from_is_err_and c.from_residual.result c.from_residual.ensures.1 in
    let slots = c.args.slots.now in
    let column = c.args.column.now in
    record {
      answer =
          subst (SettleAnswer g.K.Kind c.args.plan.now c.args.budget slots column slots column) (sym (p.1 ∙ ap Err p.2))
          (c.in_err-asked.ensures, refl, refl);
      tells = tells _ g.met.K.Kind.lawful;
    }

pub returns : goal.returns
returns g c = record {
  answer = (c.in_ok-asked.ensures, c.settle_by.ensures.answer, c.settle_by.ensures.column);
  tells = tells _ g.met.K.Kind.lawful;
}
