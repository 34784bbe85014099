use Rattle.std.proofs.Common.{◌*◌, ◌≤◌, ℤ, nat_abs, sym, refl, ap, ◌∙◌, subst, arith, rules}
use Rattle.register.specs.Value.{value}
use Rattle.register.specs.Laws.{value_zero}
use Rattle.accounts.specs.Reach.{reach}
use Rattle.accounts.proofs.register_account.RegisterAccount.balanced.Goals as goal

pub invariant_of-result : goal.invariant_of-result
invariant_of-result c =
    let is = ap value c.zero.ensures ∙ value_zero in
    record { few = search rules; within = subst (λ (z : ℤ). nat_abs z ≤ c.args.count * reach) (sym is) (omega arith) }

pub returns : goal.returns
returns c =
    let is = ap value c.zero.ensures ∙ value_zero in
    record { total = (is, refl); register = c.zero.ensures }
