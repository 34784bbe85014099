-- Rounding to an even number by one sum.
use Rattle.std.proofs.Common.{◌≡◌, ℕ, suc, ◌+◌, ◌-◌, ◌*◌, ◌/◌, ◌%◌, ◌^◌, ◌<◌, ◌≤◌, sym, ap, ◌∙◌, subst, inl, inr, mod-lt, mod-eq_of_lt, div-add-mod', arith}
use Rattle.std.proofs.lemmas.Nat.{pow_pos, pow_below}
use Prim.Native.Nat.{compare, Ordering}
use native.Mathlib.Nat.{pow-succ'}
use native.Mathlib.Decide.{dec_le}
use lib.Arith.{digits_div}
use lib.Ieee.{nearest as pick}
use lib.Ieee.Nearest.{closest}
use Rattle.numbers.proofs.Rounded.{Cmp, cmp, closest_is}

module _ (h : ℕ) (some : 0 < h) where
  stays : (c r : ℕ) → r + (h - 1) + c % 2 < 2 * h → (c * (2 * h) + r + (h - 1) + c % 2) / (2 * h) ≡ c
  stays c r l = ap (λ (x : ℕ). x / (2 * h)) (let e : c * (2 * h) + r + (h - 1) + c % 2 ≡ c * (2 * h) + (r + (h - 1) + c % 2) = omega arith in e) ∙ digits_div c l

  rises : (c r : ℕ) → 2 * h ≤ r + (h - 1) + c % 2 → r < 2 * h → (c * (2 * h) + r + (h - 1) + c % 2) / (2 * h) ≡ suc c
  rises c r g l =
      let y = r + (h - 1) + c % 2 - 2 * h in
      let b : y < 2 * h = omega arith in
      ap (λ (x : ℕ). x / (2 * h)) (let e : c * (2 * h) + r + (h - 1) + c % 2 ≡ suc c * (2 * h) + y = omega arith in e) ∙ digits_div (suc c) b

  by : (o : Ordering) (c r : ℕ) → Cmp o (r * 2) (2 * h) → r < 2 * h → (c * (2 * h) + r + (h - 1) + c % 2) / (2 * h) ≡ pick c o
  by Ordering.lt c r x l = stays c r (omega arith)
  by Ordering.gt c r x l = rises c r (omega arith) l
  by Ordering.eq c r x l =
      elim (dec_le (c % 2) 0) [
        | yes z ↦ stays c r (omega arith) ∙ omega arith
        | no z ↦ rises c r (omega arith) l ∙ omega arith
      ]

  pub closest_sum : (m : ℕ) → (m + (h - 1) + m / (2 * h) % 2) / (2 * h) ≡ closest m (2 * h)
  closest_sum m =
      ap (λ (x : ℕ). (x + (h - 1) + m / (2 * h) % 2) / (2 * h)) (sym (div-add-mod' m (2 * h)))
      ∙ by (compare (m % (2 * h) * 2) (2 * h)) (m / (2 * h)) (m % (2 * h)) (cmp (m % (2 * h) * 2) (2 * h)) (mod-lt m (omega arith))

pub twice : (d : ℕ) → 0 < d → 2 ^ d ≡ 2 * 2 ^ (d - 1)
twice d l = ap (λ (x : ℕ). 2 ^ x) (let e : d ≡ suc (d - 1) = omega arith in e) ∙ pow-succ' 2 (d - 1)

-- the half as the code has it
pub half_is : (d : ℕ) → 0 < d → d < 126 → (1 * 2 ^ (d - 1)) % 2 ^ 128 ≡ 2 ^ (d - 1)
half_is d s l = let b = pow_below (d - 1) 128 (omega arith) in ap (λ (x : ℕ). x % 2 ^ 128) (omega arith) ∙ mod-eq_of_lt b

pub half_small : (d : ℕ) → d < 126 → (0 < 2 ^ (d - 1)) × (2 ^ (d - 1) < 2 ^ 126)
half_small d l = (pow_pos (d - 1), pow_below (d - 1) 126 (omega arith))

pub by_sum : (m d : ℕ) → 0 < d → d < 126 → (m + ((1 * 2 ^ (d - 1)) % 2 ^ 128 - 1) + m / 2 ^ d % 2) / 2 ^ d ≡ closest m (2 ^ d)
by_sum m d s l =
    ap (λ (x : ℕ). (m + (x - 1) + m / 2 ^ d % 2) / 2 ^ d) (half_is d s l)
    ∙ subst (λ (u : ℕ). (m + (2 ^ (d - 1) - 1) + m / u % 2) / u ≡ closest m u) (sym (twice d s)) (closest_sum (2 ^ (d - 1)) (pow_pos (d - 1)) m)

pub rounds_up : (m u : ℕ) → closest m u ≤ m / u + 1
rounds_up m u = elim (closest_is m u) [ inl i ↦ omega arith | inr i ↦ omega arith ]

pub ruleset rounds = (half_is, half_small, by_sum, rounds_up)
