-- What is a number in the examples.
use Rattle.std.proofs.Common.{ℕ, ◌≤◌, ℤ, pos, nat_abs, ◌≤ℤ◌, refl, arith, lit<}
use borrow.Author.Differences.{ints}
use Rattle.numbers.specs.Binary as formats
use Rattle.numbers.specs.Format.{top}
use Rattle.numbers.proofs.Binary as binary
use Rattle.numbers.proofs.Scales.{held_le_top}
use Rattle.kinds.specs.Count.{count_worth}
use Rattle.cases.specs.Examples.{OfNumbers}

no_greater : (z : ℤ) (n : ℕ) → nat_abs z ≤ n → z ≤ℤ pos n
no_greater z n h = omega (arith, ints)

pub of_numbers : OfNumbers
unfolding formats.is_number formats.worth count_worth
of_numbers = record {
  infinity = λ _ _. refl;
  top_is_number = tt;
  top_is_greatest = λ p t. no_greater (formats.worth formats.binary64 p) (top formats.binary64) (held_le_top formats.binary64 ((binary.codes formats.binary64 refl (lit< tt)).held p t));
  no_echo = λ _ _. refl;
  least_count = (tt, refl);
}
