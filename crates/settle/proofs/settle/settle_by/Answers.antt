use Rattle.std.proofs.Common.{◌≡◌, ◌++◌, length, drop, replicate, refl, ap, ◌∙◌, subst, arith}
use Rattle.kinds.specs.Answer.{answered}
use Rattle.settle.proofs.Settling.{Settling, again, named, ends_here, cleared_again}
use Rattle.settle.proofs.settle.settle_by.Goals as goal

pub returns-in-Some-clause-answer : goal.returns-in-Some-clause-answer
returns-in-Some-clause-answer g c =
    let law = g.met.K.Kind.lawful in
    let s = c.loop-passes.invariant.0 in
    let n = c.in-Some.ensures in
    ends_here g.K.Kind law _ _ _ s (named g.K.Kind law _ _ _ _ _ _ s n) n

pub loop-passes-preserved : goal.loop-passes-preserved
loop-passes-preserved g c =
    let s = c.loop-passes.invariant.0 in
    let whole = ap (λ n. replicate n 0 ++ drop n c.loop-passes.column) s.same in
    let before = c.loop-passes.invariant.1 ∙ c.clear.ensures in (
      again _ g.met.K.Kind.lawful _ _ _ _ _ _ s c.loop-passes-test.true c.in_default.ensures c.pass_by.ensures.slots,
      cleared_again (length c.args.slots.now) c.args.column.now c.loop-passes.column _ before (c.pass_by.ensures.column ∙ whole) ∙ c.loop-passes.invariant.1,
    )

pub returns-in-Some-test-clause-answer : goal.returns-in-Some-test-clause-answer
returns-in-Some-test-clause-answer g c =
    let law = g.met.K.Kind.lawful in
    let all : c.loop-passes.passes ≡ c.args.budget = omega arith in
    let s = subst (λ n. Settling g.K.Kind c.args.plan.now c.args.budget c.args.slots.now n c.loop-passes.slots) all c.loop-passes.invariant.0 in
    let n = c.in-Some-test.ensures in
    ends_here g.K.Kind law _ _ _ s (named g.K.Kind law _ _ _ _ _ _ s n) n

pub returns-in-None-clause-answer : goal.returns-in-None-clause-answer
returns-in-None-clause-answer g c =
    let all : c.loop-passes.passes ≡ c.args.budget = omega arith in
    let s = subst (λ n. Settling g.K.Kind c.args.plan.now c.args.budget c.args.slots.now n c.loop-passes.slots) all c.loop-passes.invariant.0 in
    let is = c.outcome.ensures ∙ ap (λ z. answered (g.K.Kind.outcome z)) (c.sum_of.ensures ∙ s.total) in
    ends_here g.K.Kind g.met.K.Kind.lawful _ _ _ s is (refl, c.in-None.ensures)
