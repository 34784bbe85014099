-- What the adder answers, as a relation.
use Rattle.std.specs.Prelude.{◌≡◌, ℕ, ◌%◌, T, ◌≢◌, ℤ, pos, ◌+ℤ◌}
use Rattle.numbers.specs.Format.{Format, Holds, Nearest, far}
use Rattle.numbers.specs.Binary.{is_number, worth}

pub record Sums (f : Format) (a b s r : ℕ) : Type 0 where
  -- s is a number, the nearest to the sum of the two worths
  pub sum : T (is_number f s)
  pub nearest : Nearest f (worth f a +ℤ worth f b) (worth f s)
  -- where another number is as near, the pattern of s ends in a 0 bit
  pub even : (w : ℤ) → Holds f w → w ≢ worth f s → far w (worth f a +ℤ worth f b) ≡ far (worth f s) (worth f a +ℤ worth f b) → s % 2 ≡ 0
  -- r is a number and carries exactly the rest
  pub remainder : T (is_number f r)
  pub exact : worth f s +ℤ worth f r ≡ worth f a +ℤ worth f b
  -- a worth of 0 is all zeros
  pub sum_zero : worth f s ≡ pos 0 → s ≡ 0
  pub remainder_zero : worth f r ≡ pos 0 → r ≡ 0
