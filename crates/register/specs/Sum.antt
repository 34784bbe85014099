-- Registers as numbers that join by addition.
use Rattle.std.specs.Prelude.{◌≡◌, ℕ, zero, suc, ◌*◌, ◌/◌, ◌%◌, ◌^◌, ◌<◌, List, [], ◌∷◌, length, ℤ, pos, ◌+ℤ◌, slice_index, refl}
use Rattle.std.proofs.Common.{ap, arith}
use Rattle.register.specs.Value.{value}
use Rattle.register.specs.Wrap.{half, residue}
use Rattle.register.specs.declared.Register.{Register}

-- the n low limbs of v
abbrev pub limbs_of : ℕ → ℕ → List ℕ
limbs_of zero v = []
limbs_of (suc n) v = v % 2 ^ 64 ∷ limbs_of n (v / 2 ^ 64)

pub length_limbs_of : (n v : ℕ) → length (limbs_of n v) ≡ n
length_limbs_of zero v = refl
length_limbs_of (suc n) v = ap suc (length_limbs_of n (v / 2 ^ 64))

pub limbs_of_small : (n v k : ℕ) → slice_index (limbs_of n v) k < 2 ^ 64
limbs_of_small zero v k = omega arith
limbs_of_small (suc n) v zero = omega arith
limbs_of_small (suc n) v (suc k) = limbs_of_small n (v / 2 ^ 64) k

-- the register that holds z, wrapped at its width: it tells every limb
unfoldable pub register_of : ℤ → Register
register_of z = let n = residue (2 * half) z in record { limbs = limbs_of 34 n; long = length_limbs_of 34 n; small = limbs_of_small 34 n }

abbrev pub zero_register : Register
zero_register = register_of (pos 0)

abbrev pub plus : Register → Register → Register
plus a b = register_of (value a +ℤ value b)
