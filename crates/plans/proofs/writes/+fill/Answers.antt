-- What was written is the rule's dot or the rule's pair.
use Rattle.std.proofs.Common.{◌≡◌, ◌+◌, ◌-◌, ◌*◌, [], ◌∷◌, ◌++◌, length, sym, ap, ◌∙◌, ap₂, arith}
use Rattle.plans.specs.Plan.{pair, text}
use Rattle.plans.specs.Halving.{halving}
use Rattle.plans.proofs.Halves.{halving_rule, halving_length}
use Rattle.plans.proofs.Filling.{one_filled, pair_filled}
use Rattle.plans.proofs.writes.+fill.Goals as goal

pub returns-then-dots-eq1 : goal.returns-then-dots-eq1
returns-then-dots-eq1 t c =
    record {
      filled = one_filled c.args.text.now 46 (omega arith) ∙ sym (ap (λ n. text (halving n)) c.if-dots-eq1.true ∙ ap text halving_rule.one);
      rule = halving_rule;
    }

pub returns : goal.returns
returns t c =
    let n = c.args.dots in
    let l = c.halves-left.result.0 in
    let r = c.halves-left.result.1 in
    let is : halving n ≡ pair (halving l) (halving r) =
    halving_rule.more n (omega arith) ∙ sym (ap₂ (λ i j. pair (halving i) (halving j)) c.halves-left.ensures.left c.halves-left.ensures.right)
    in
    let long-l : length c.fill.new.text + 2 ≡ 3 * l = ap (λ x. length x + 2) c.fill.ensures.filled ∙ halving_length l (omega arith) in
    let long-r : length c.fill-2.new.text + 2 ≡ 3 * r = ap (λ x. length x + 2) c.fill-2.ensures.filled ∙ halving_length r (omega arith) in
    record {
      filled =
          pair_filled c.args.text.now c.fill.new.text c.fill-2.new.text (1 + c.plan_bytes-middle.result) (length c.args.text.now - 1) (omega arith) (omega arith) (omega arith)
          ∙ ap₂ (λ a b. 40 ∷ (a ++ (b ++ (41 ∷ [])))) c.fill.ensures.filled c.fill-2.ensures.filled ∙ sym (ap text is);
      rule = halving_rule;
    }
