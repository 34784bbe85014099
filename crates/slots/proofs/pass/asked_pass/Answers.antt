use Rattle.std.proofs.Common.{Err, sym, refl, ap, ◌∙◌, subst}
use Rattle.std.proofs.lemmas.Result.{err_from_is_err_and}
use Rattle.slots.specs.Asked.{PassAnswer}
use Rattle.slots.proofs.Keeps.{keeps}
use Rattle.slots.proofs.pass.asked_pass.Goals as goal

pub returns-in-err-asked : goal.returns-in-err-asked
returns-in-err-asked g c =
    let p = err_from_is_err_and c.from-residual.result c.from-residual.ensures.1 in
    let slots = c.args.slots.now in
    let column = c.args.column.now in
    record {
      answer = subst (PassAnswer g.K.Kind c.args.plan.now slots column slots column) (sym (p.1 ∙ ap Err p.2)) (c.in-err-asked.ensures, refl, refl);
      keeps = keeps _ g.met.K.Kind.lawful;
    }

pub returns : goal.returns
returns g c = record {
  answer = (c.in-ok-asked.ensures, c.pass-by.ensures.slots, c.pass-by.ensures.column);
  keeps = keeps _ g.met.K.Kind.lawful;
}
