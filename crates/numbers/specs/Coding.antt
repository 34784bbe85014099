-- How a kind writes the numbers of a format as bit patterns, and what its calls answer by that.
use Rattle.std.specs.Prelude.{◌≡◌, Bool, ℕ, ◌^◌, ◌<◌, T, ℤ, pos, neg_ℤ, ◌+ℤ◌}
use Rattle.numbers.specs.Format.{Format, Holds, top}
use Rattle.numbers.specs.Nearest as format
use Rattle.numbers.specs.Nearest.{nearest, remainder}
use Rattle.numbers.specs.Outcome.{Outcome, told_by}

-- which patterns are numbers, what each is worth, and the pattern that a call answers for a worth
pub record Coding : Type 0 where
  pub format : Format
  pub number : ℕ → Bool
  pub worth : ℕ → ℤ
  pub pattern : ℤ → ℕ

-- what a coding owes: its numbers' worths are those of its format, each of these has a pattern, and the pattern of worth 0 is all zeros
pub record Codes (k : Coding) : Type 0 where
  pub held : (p : ℕ) → T (k.number p) → Holds k.format (k.worth p)
  pub made : (z : ℤ) → Holds k.format z → T (k.number (k.pattern z))
  pub back : (z : ℤ) → Holds k.format z → k.worth (k.pattern z) ≡ z
  pub none : k.pattern (pos 0) ≡ 0
  pub low : top k.format < 2 ^ 2098

abbrev pub total : Coding → ℕ → ℕ → ℤ
total k p q = k.worth p +ℤ k.worth q

-- the calls of a kind
abbrev pub opposite : Coding → ℕ → ℕ
opposite k p = k.pattern (neg_ℤ (k.worth p))

abbrev pub adder : Coding → ℕ → ℕ → ℕ × ℕ
adder k p q = (k.pattern (nearest k.format (total k p q)), k.pattern (remainder k.format (k.worth p) (k.worth q)))

abbrev pub outcome : Coding → ℤ → Outcome ℕ
outcome k v = told_by k.pattern (format.outcome k.format v)
