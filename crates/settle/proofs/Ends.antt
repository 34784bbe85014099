-- A sum raised and lowered by a power of two, as a register does it.
use Rattle.std.proofs.Common.{◌≡◌, ℕ, ◌^◌, true, false, ℤ, pos, ◌+ℤ◌, ◌-ℤ◌, neg_ℤ, ap, ◌∙◌, one-mul, arith}
use Rattle.std.proofs.lemmas.Int.{ints}
use Rattle.register.specs.Sum.{register_of}
use Rattle.register.specs.Value.{value}
use Rattle.register.specs.Wrap.{wrap, scaled}
use Rattle.register.specs.declared.Register.{Register}
use Rattle.register.specs.Laws.{value_register_of}

module _ (r : Register) (sum : ℤ) (s : ℕ) (is : value r ≡ sum) where
  pub raised : wrap (sum +ℤ pos (2 ^ s)) ≡ sum +ℤ pos (2 ^ s) → value (register_of (value r +ℤ scaled false 1 s)) ≡ sum +ℤ pos (2 ^ s)
  raised e = value_register_of _ ∙ ap (λ z. wrap (z +ℤ scaled false 1 s)) is ∙ ap (λ n. wrap (sum +ℤ pos n)) (one-mul (2 ^ s)) ∙ e

  pub lowered : wrap (sum -ℤ pos (2 ^ s)) ≡ sum -ℤ pos (2 ^ s) → value (register_of (value r +ℤ scaled true 1 s)) ≡ sum -ℤ pos (2 ^ s)
  lowered e = value_register_of _ ∙ ap (λ z. wrap (z +ℤ scaled true 1 s)) is ∙ ap (λ n. wrap (sum +ℤ neg_ℤ (pos n))) (one-mul (2 ^ s)) ∙ e

pub minus_zero : (z : ℤ) → z -ℤ pos 0 ≡ z
minus_zero z = omega (arith, ints)
