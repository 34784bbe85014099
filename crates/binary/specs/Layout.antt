-- Binary formats whose patterns go into words of 64 bits.
use Rattle.std.specs.Prelude.{◌≡◌, ℕ, ◌+◌, ◌-◌, ◌*◌, ◌^◌, ◌<◌, ◌≤◌, Bool, cond, ◌&&◌, ℤ, ◌-ℤ◌, nat_lt}
use Rattle.std.proofs.Common.{rules}
use Rattle.numbers.specs.Format.{Format, bound, top}
use Rattle.numbers.specs.Nearest.{nearest}
use Rattle.numbers.specs.Binary.{sign_bit, pattern, binary64, binary32}

-- the format's `lead` is 2 ^ width
pub record Layout (f : Format) (width : ℕ) : Type 0 where
  pub binary : f.radix ≡ 2
  pub power : f.lead ≡ 2 ^ width
  pub some : 0 < width
  pub narrow : width ≤ 52
  pub long : 0 < f.scales
  pub short : f.scales ≤ 2045
  pub low : top f < 2 ^ 2098
  pub word : 2 * sign_bit f ≤ 2 ^ 64

pub layout_64 : Layout binary64 52
layout_64 = search rules

pub layout_32 : Layout binary32 23
layout_32 = search rules

-- the pattern of the greatest number
abbrev pub top_code : Format → ℕ
top_code f = f.scales * f.lead + (bound f - 1)

-- a pattern without a sign given one; zero has none
abbrev pub signed_code : Format → Bool → ℕ → ℕ
signed_code f negative c = cond (negative && nat_lt 0 c) (sign_bit f + c) c

-- the pattern of the number nearest to a sum
abbrev pub nearest_of : Format → ℤ → ℕ
nearest_of f v = pattern f (nearest f v)

-- what is nearest to v, and what that leaves
pub record Settled (f : Format) (v : ℤ) (s r : ℕ) : Type 0 where
  pub sum : s ≡ nearest_of f v
  pub rest : r ≡ nearest_of f (v -ℤ nearest f v)
