use Rattle.std.proofs.Common.{◌≡◌, ◌+◌, ◌*◌, ◌≤◌, ℤ, ◌+ℤ◌, nat_abs, sym, refl, ap, ◌∙◌, subst, arith}
use Rattle.register.specs.Value.{value, meant}
use Rattle.register.specs.Laws.{value_register_of}
use Rattle.accounts.specs.Reach.{reach}
use Rattle.accounts.proofs.Stays.{stays}
use Rattle.accounts.proofs.register_account.RegisterAccount.enter.Goals as goal

pub invariant_of-self : goal.invariant_of-self
invariant_of-self c =
    let old = c.args.self.now in
    let s = stays (value old.sum) (meant c.args.worth) old.count old.within c.requires.room c.requires.small in
    let is : value c.add_scaled.new.self ≡ value old.sum +ℤ meant c.args.worth = ap value c.add_scaled.ensures ∙ value_register_of _ ∙ s.exact in
    record { few = omega (arith, c.requires.room); within = subst (λ (z : ℤ). nat_abs z ≤ (old.count + 1) * reach) (sym is) s.within }

pub returns : goal.returns
returns c =
    let old = c.args.self.now in
    let s = stays (value old.sum) (meant c.args.worth) old.count old.within c.requires.room c.requires.small in
    let is : value c.add_scaled.new.self ≡ value old.sum +ℤ meant c.args.worth = ap value c.add_scaled.ensures ∙ value_register_of _ ∙ s.exact in
    record {
      means = ap (λ (z : ℤ). record { total = z; entries = old.count + 1; limit = 4294967295 }) is;
      entered = record { sum = c.add_scaled.ensures; count = refl };
    }
