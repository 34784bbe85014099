use Rattle.std.proofs.Common.{◌<◌, ◌/◌, ℕ, rules, slice_index, sym, ◌∙◌}
use Rattle.register.proofs.Splits.{some_below}
use Rattle.register.proofs.Register.any_below.Goals as goal

pub returns-then-any : goal.returns-then-any
returns-then-any c =
    let some : (k : ℕ) × ((k < c.args.at / 64) × (k < 34) × (0 < slice_index c.args.self.now.limbs k)) = search rules in
    c.if-any.true ∙ sym (some_below c.args.self.now c.args.at some.0 some.1.0 some.1.1 some.1.2)
