-- A magnitude of 0 is a worth of 0, and no other is.
use Rattle.std.proofs.Common.{◌≡◌, ℕ, ◌*◌, ◌^◌, Bool, true, false, ℤ, pos, ◌==◌, ◌≢◌, sym, refl, ◌∙◌, zero-mul, arith, pow_pos}
use native.Mathlib.Nat.{eq_of_mul-eq-mul_right}
use borrow.Author.Differences.{ints}
use Rattle.std.proofs.lemmas.Bool.{eqb-true, eqb-false}
use Rattle.register.specs.Wrap.{scaled}

scaled_zero : (n : Bool) (m s : ℕ) → m ≡ 0 → scaled n m s ≡ pos 0
scaled_zero true m s e = rw e (rw zero-mul refl)
scaled_zero false m s e = rw e (rw zero-mul refl)

none : (m s : ℕ) → m * 2 ^ s ≡ 0 → m ≡ 0
none m s e = eq_of_mul-eq-mul_right (2 ^ s) (pow_pos s) m 0 (e ∙ sym (zero-mul (2 ^ s)))

zero_scaled : (n : Bool) (m s : ℕ) → scaled n m s ≡ pos 0 → m ≡ 0
zero_scaled true m s e = none m s (omega (arith, ints))
zero_scaled false m s e = none m s (omega (arith, ints))

pub no_worth : (n : Bool) (m s : ℕ) (z : ℤ) → scaled n m s ≡ z → (m == 0) ≡ true → z ≡ pos 0
no_worth n m s z e t = sym e ∙ scaled_zero n m s (eqb-true _ _ t)

pub some_worth : (n : Bool) (m s : ℕ) (z : ℤ) → scaled n m s ≡ z → (m == 0) ≡ false → z ≢ pos 0
some_worth n m s z e t i = eqb-false _ _ t (zero_scaled n m s (e ∙ i))

pub ruleset zeros = (no_worth, some_worth)
