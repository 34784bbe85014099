-- A register as a whole.
use Rattle.std.specs.Prelude.{◌≡◌, ℕ, ◌+◌, ◌*◌, ◌^◌, ◌<◌, ◌≤◌, ℤ, ◌+ℤ◌, slice_index, unsigned_abs, refl}
use Rattle.std.proofs.Common.{take, take_all, arith, pow_pos}
use Rattle.register.specs.Value.{bits}
use Rattle.register.specs.Wrap.{half}
use Rattle.register.specs.declared.Register.{Register}
use Rattle.register.specs.Places.{front_lt}
use Rattle.std.proofs.lemmas.Int.{ints}

pub half_pos : 0 < half
unfolding half
half_pos = pow_pos 2175

pub whole_is : 2 ^ (64 * 34) ≡ 2 * half
unfolding half
whole_is = refl

-- a sum is no larger than its parts together
pub sum_size : (a b : ℤ) → unsigned_abs (a +ℤ b) ≤ unsigned_abs a + unsigned_abs b
sum_size a b = omega (arith, ints)

abbrev pub limb : Register → ℕ → ℕ
limb r i = slice_index r.limbs i

pub whole_lt : (r : Register) → bits r < 2 * half
whole_lt r = let all : take 34 r.limbs ≡ r.limbs = take_all 34 r.limbs (omega (arith, r.long)) in simp (all, whole_is) at (front_lt r.limbs 34 r.small)
