-- Two's complement.
--     residue n z       the number below n that differs from z by a multiple of n
--     signed_at h n     the number that n below 2 * h stands for: n itself below h, else n - 2 * h
--     wrap_at h z       the number from -h on and below h that differs from z by a multiple of 2 * h
use Rattle.std.specs.Prelude.{ℕ, suc, ◌-◌, ◌*◌, ◌%◌, ◌^◌, Bool, cond, List, ℤ, pos, negsuc, neg_ℤ, nat_lt}
use Rattle.register.specs.Limbs.{nat_of}

unfoldable pub residue : ℕ → ℤ → ℕ
residue n (pos a) = a % n
residue n (negsuc a) = n - 1 - a % n

unfoldable pub signed_at : ℕ → ℕ → ℤ
signed_at h n = cond (nat_lt n h) (pos n) (negsuc (2 * h - suc n))

unfoldable pub wrap_at : ℕ → ℤ → ℤ
wrap_at h z = signed_at h (residue (2 * h) z)

-- a register has 2176 bits
unfoldable pub half : ℕ
half = 2 ^ 2175

abbrev pub wrap : ℤ → ℤ
wrap z = wrap_at half z

abbrev pub value_of : List ℕ → ℤ
value_of xs = signed_at half (nat_of xs)

-- a magnitude with a sign
abbrev pub signed_by : Bool → ℕ → ℤ
signed_by negative m = cond negative (neg_ℤ (pos m)) (pos m)

-- and times a power of two
abbrev pub scaled : Bool → ℕ → ℕ → ℤ
scaled negative magnitude shift = signed_by negative (magnitude * 2 ^ shift)
