use Rattle.std.proofs.Common.{Err, ap, ◌∙◌, arith}
use Rattle.std.proofs.lemmas.Result.{err_from_is_err_and}
use Rattle.refusals.specs.declared.Refusal.TheVariants.{RegisterTooLarge}
use Rattle.register.specs.Value.{value}
use Rattle.kinds.specs.Answer.{answered}
use Rattle.accounts.proofs.FleetSum.{one_first, none_first, added}
use Rattle.accounts.proofs.fleet.fleet_total.Goals as goal

pub returns-in_err-all_in_reach : goal.returns-in_err-all_in_reach
returns-in_err-all_in_reach g c =
    let p = err_from_is_err_and c.from_residual.result c.from_residual.ensures.1 in
    let first = c.in_err-all_in_reach.ensures in
    let rs = c.args.registers.now in
    record {
      too_many = λ h. absurd (omega (arith, c.if-registers-gt1024.false));
      beyond = λ _ i f. p.1 ∙ ap Err (p.2 ∙ first.2 ∙ ap RegisterTooLarge (one_first rs first.0 i first.1 f));
      total = λ _ all. absurd (none_first rs first.0 all first.1);
    }

pub returns : goal.returns
returns g c =
    let all = c.in_ok-all_in_reach.ensures in
    let rs = c.args.registers.now in
    record {
      too_many = λ h. absurd (omega (arith, c.if-registers-gt1024.false));
      beyond = λ _ i f. absurd (none_first rs i all f);
      total = λ few _. c.outcome.ensures ∙ ap (λ z. answered (g.K.Kind.outcome z)) (ap value c.fold.ensures.value ∙ added rs few all);
    }
