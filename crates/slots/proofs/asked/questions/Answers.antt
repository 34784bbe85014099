use Rattle.std.proofs.Common.{Err, sym, ap, ◌∙◌, subst, inl, inr, arith}
use Rattle.std.proofs.lemmas.Result.{err_from_is_err_and}
use Rattle.slots.specs.Asked.{AskedAnswer, wrong_count, no_number, short_column}
use Rattle.slots.proofs.Asking.{plan_last}
use Rattle.slots.proofs.asked.questions.Goals as goal

pub returns-then-count-lt2 : goal.returns-then-count-lt2
returns-then-count-lt2 g c = wrong_count (λ h. elim c.then-count-lt2.either [ inl a ↦ omega (arith, h) | inr b ↦ omega (arith, h) ])

pub returns-in_err-all_numbers : goal.returns-in_err-all_numbers
returns-in_err-all_numbers g c =
    let p = err_from_is_err_and c.from_residual.result c.from_residual.ensures.1 in
    let first = c.in_err-all_numbers.ensures in
    subst (AskedAnswer g.K.Kind c.args.slots.now c.args.column c.args.plan.now) (sym (p.1 ∙ ap Err (p.2 ∙ first.2)))
    (no_number first.0 (c.if-count-lt2.false, c.if-count-gt4096.false) first.1)

pub returns-then-column-count : goal.returns-then-column-count
returns-then-column-count g c = short_column (c.if-count-lt2.false, c.if-count-gt4096.false) c.in_ok-all_numbers.ensures c.if-column-count.true

pub returns : goal.returns
returns g c =
    plan_last g.K.Kind c.args.slots.now c.args.column c.args.plan.now c.read_plan.result (c.if-count-lt2.false, c.if-count-gt4096.false)
    c.in_ok-all_numbers.ensures c.if-column-count.false c.read_plan.ensures.answer
