-- The laws of every kind of number, over what a kind tells: which patterns are numbers, what each is worth, the opposite of a number, the adder and the outcome of a sum.
use Rattle.std.specs.Prelude.{◌≡◌, Bool, ℕ, ◌^◌, ◌≤◌, ◌<◌, T, ℤ, pos, neg_ℤ, nat_abs, ◌+ℤ◌, ◌≤ℤ◌}
use Rattle.numbers.specs.Format.{far}
use Rattle.numbers.specs.Outcome as outcomes
use Rattle.numbers.specs.Outcome.{Outcome, AtMost}

-- the pattern p is a number, and none lies nearer to v
pub record NoneNearer (number : ℕ → Bool) (worth : ℕ → ℤ) (v : ℤ) (p : ℕ) : Type 0 where
  pub found : T (number p)
  pub near : (w : ℕ) → T (number w) → far (worth p) v ≤ far (worth w) v

-- the laws, by the names that docs/RULES.md, 'Laws of every kind', gives them
pub record Lawful (number : ℕ → Bool) (worth : ℕ → ℤ) (opposite : ℕ → ℕ) (adder : ℕ → ℕ → ℕ × ℕ) (outcome : ℤ → Outcome ℕ) : Type 0 where
  pub zero : T (number 0) × (worth 0 ≡ pos 0)
  pub bounded_worths : (p : ℕ) → T (number p) → nat_abs (worth p) < 2 ^ 2098
  pub opposites : (p : ℕ) → T (number p) → T (number (opposite p)) × (worth (opposite p) ≡ neg_ℤ (worth p))
  pub nearest_sum : (p q : ℕ) → T (number p) → T (number q) → NoneNearer number worth (worth p +ℤ worth q) (adder p q).0
  pub remainder_is_number : (p q : ℕ) → T (number p) → T (number q) → T (number (adder p q).1)
  pub remainder_is_small : (p q : ℕ) → T (number p) → T (number q)
      → (nat_abs (worth (adder p q).1) ≤ nat_abs (worth p)) × (nat_abs (worth (adder p q).1) ≤ nat_abs (worth q))
  pub nothing_lost : (p q : ℕ) → T (number p) → T (number q) → worth (adder p q).0 +ℤ worth (adder p q).1 ≡ worth p +ℤ worth q
  pub nearest_outcome : (v : ℤ) (p : ℕ) → outcome v ≡ outcomes.number p → NoneNearer number worth v p
  pub one_pattern : (v w : ℤ) (p q : ℕ) → outcome v ≡ outcomes.number p → outcome w ≡ outcomes.number q → worth p ≡ worth q → p ≡ q
  pub order : (v w : ℤ) → v ≤ℤ w → AtMost worth (outcome v) (outcome w)
