-- Bounds by powers of two.
use Rattle.std.proofs.Common.{◌≡◌, ℕ, ◌+◌, ◌*◌, ◌/◌, ◌^◌, ◌<◌, ◌≤◌, max, List, [], ◌∷◌, length, ap, ◌∙◌, inl, inr, lt_of_lt_of_le, arith, pow_pos, pow_mono, pow-add}
use Rattle.std.specs.Int.{IsPowerOfTwo}
use Rattle.std.proofs.lemmas.Bool.{cases_lt}
use Rattle.numbers.specs.Lawful.{Lawful}
use Rattle.kinds.specs.declared.kind.Kind.{Ghosts}
use Rattle.slots.specs.Pass.{Numbers, in_use}
use Rattle.settle.specs.Seen.{Under}
use Rattle.settle.specs.Test.{Ceiling}

pub double : (n : ℕ) → 2 ^ (n + 1) ≡ 2 ^ n * 2
double n = pow-add 2 n 1

-- a power of two by its logarithm
pub power_of_log : (p r : ℕ) → IsPowerOfTwo p → 2 ^ r ≤ p → p < 2 * 2 ^ r → p ≡ 2 ^ r
power_of_log p r (e, is) low high =
    elim (cases_lt e r) [
      | inl a ↦ absurd (omega (arith, is, double e, pow_pos e, pow_mono {i = e + 1} {j = r} (omega arith)))
      | inr a ↦
          elim (cases_lt r e) [
            | inl b ↦ absurd (omega (arith, is, double r, pow_mono {i = r + 1} {j = e} (omega arith)))
            | inr b ↦ is ∙ ap (λ n. 2 ^ n) (omega arith)
          ]
    ]

-- the least power of two that is no less than z
pub ceiling_of : (z r : ℕ) → z ≤ 2 ^ r → 2 ^ r / 2 < max 1 z → Ceiling z r
ceiling_of z r over under = record {
  over = over;
  least = λ d fits. elim (cases_lt d r) [
    | inl a ↦ absurd (omega (arith, double d, pow_pos d, pow_mono {i = d + 1} {j = r} (omega arith)))
    | inr a ↦ a
  ];
}

module _ {K : Type 0} (k : Ghosts K) where
  pub under_weaker : (p q : ℕ) (xs : List ℕ) → p ≤ q → Under k p xs → Under k q xs
  under_weaker p q xs h u i d l = lt_of_lt_of_le (u i d l) (pow_mono h)

  pub in_use_length : (xs : List ℕ) → in_use k xs ≤ length xs
  in_use_length [] = omega arith
  in_use_length (x ∷ xs) = let h = in_use_length xs in omega arith

  pub under_law : Lawful k.number k.worth k.opposite k.adder k.outcome → (xs : List ℕ) → Numbers k xs → Under k 2098 xs
  under_law l xs n i d h = l.bounded_worths _ (n i d h)
