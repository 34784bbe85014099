-- Whole numbers written in little-endian limbs of 64 bits.
use Rattle.std.specs.Prelude.{◌≡◌, ℕ, ◌+◌, ◌*◌, ◌%◌, ◌^◌, ◌<◌, ◌≤◌, List, [], ◌∷◌}

-- the number that the limbs write
abbrev pub nat_of : List ℕ → ℕ
nat_of [] = 0
nat_of (x ∷ xs) = x + 2 ^ 64 * nat_of xs

-- p is the least number of bits that n goes into
pub record LeastBits (n p : ℕ) : Type 0 where
  pub enough : n < 2 ^ p
  pub least : (q : ℕ) → n < 2 ^ q → p ≤ q

-- r units are nearest to n, and an even number of them where two are equally near
pub record Rounded (n unit r : ℕ) : Type 0 where
  pub above : 2 * n ≤ 2 * (r * unit) + unit
  pub below : 2 * (r * unit) ≤ 2 * n + unit
  pub even_above : 2 * n ≡ 2 * (r * unit) + unit → r % 2 ≡ 0
  pub even_below : 2 * (r * unit) ≡ 2 * n + unit → r % 2 ≡ 0
