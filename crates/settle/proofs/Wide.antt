-- Sums of slots stay far inside a register, so that they never wrap.
use Rattle.std.proofs.Common.{◌≡◌, ℕ, ◌+◌, ◌*◌, ◌^◌, ◌<◌, ◌≤◌, min, List, [], ◌∷◌, length, ℤ, pos, ◌+ℤ◌, ◌-ℤ◌, nat_abs, sym, refl, ap, inl, inr, le_trans, le_of_eq, mul-le-mul_right, add-mul, le_antisymm, one-mul, arith, lit<, lit≤, pow_mono, pow-add}
use Rattle.std.proofs.lemmas.Int.{ints}
use Rattle.std.proofs.lemmas.Bool.{cases_lt}
use Rattle.numbers.specs.Lawful.{Lawful}
use Rattle.register.specs.Wrap.{half, wrap}
use Rattle.register.specs.Whole.{half_pos, sum_size}
use Rattle.register.specs.Wrapping.{wrap_fits}
use Rattle.kinds.specs.declared.kind.Kind.{Ghosts}
use Rattle.slots.specs.Pass.{Numbers, exact_sum, in_use}
use Rattle.settle.specs.Seen.{Below, Under, Peak}
use Rattle.settle.specs.Test.{Ceiling, Reach, none, some}
use Rattle.std.proofs.lemmas.List.Elements.{All-head, All-tail}
use Rattle.settle.proofs.Powers.{under_law, in_use_length}

-- as far as 4096 worths reach
unfoldable farthest : ℕ
farthest = 2 ^ 2110

twice_within : farthest + farthest < half
unfolding farthest half
twice_within = lit< tt

many_worths : 4096 * 2 ^ 2098 ≤ farthest
unfolding farthest
many_worths = lit≤ tt

power_within : (n : ℕ) → n ≤ 2110 → 2 ^ n ≤ farthest
unfolding farthest
power_within n h = pow_mono h

module _ {K : Type 0} (k : Ghosts K) where
  sized : (m u : ℕ) → m < u → m ≤ min 1 m * u
  sized m u h =
      elim (cases_lt 0 m) [
        | inl a ↦ let e : min 1 m ≡ 1 = omega arith in rw (e, one-mul) (omega arith)
        | inr a ↦ omega arith
      ]

  -- the sum of numbers below 2 ^ p, so many of them in use
  sum_bound : (p : ℕ) (xs : List ℕ) → Under k p xs → nat_abs (exact_sum k xs) ≤ in_use k xs * 2 ^ p
  sum_bound p [] h = omega arith
  sum_bound p (x ∷ xs) h =
      let a = sized (nat_abs (k.worth x)) (2 ^ p) (All-head (Below k p) x xs h) in
      let b = sum_bound p xs (All-tail (Below k p) x xs h) in
      let t = sum_size (k.worth x) (exact_sum k xs) in
      omega (arith, add-mul (min 1 (nat_abs (k.worth x))) (in_use k xs) (2 ^ p))

  none_sum : (xs : List ℕ) → in_use k xs ≡ 0 → nat_abs (exact_sum k xs) ≡ 0
  none_sum [] h = refl
  none_sum (x ∷ xs) h =
      let a : nat_abs (k.worth x) ≡ 0 = omega arith in
      let b = none_sum xs (omega arith) in
      omega (arith, sum_size (k.worth x) (exact_sum k xs))

  pub reach_bound : (xs : List ℕ) (b : ℕ) → Reach k xs b → nat_abs (exact_sum k xs) ≤ b
  reach_bound xs _ (none z) = omega (arith, none_sum xs z)
  reach_bound xs _ (some c p z e top) =
      le_trans (sum_bound p xs top.under) (le_trans (mul-le-mul_right (2 ^ p) e.over) (le_of_eq (sym (pow-add 2 c p))))

  -- the bound is one number
  pub reach_one : (xs : List ℕ) (b d : ℕ) → Reach k xs b → Reach k xs d → b ≡ d
  reach_one xs _ _ (none z) (none y) = refl
  reach_one xs _ _ (none z) (some c p y e top) = absurd (omega arith)
  reach_one xs _ _ (some c p y e top) (none z) = absurd (omega arith)
  reach_one xs _ _ (some c p y e top) (some c' p' y' e' top') =
      let i : c ≡ c' = le_antisymm (e.least c' e'.over) (e'.least c e.over) in
      let j : p ≡ p' = le_antisymm (top.least p' top'.under) (top'.least p top.under) in
      ap (λ n. 2 ^ n) (omega arith)

  module _ (l : Lawful k.number k.worth k.opposite k.adder k.outcome) where
    sum_small : (xs : List ℕ) → Numbers k xs → length xs ≤ 4096 → nat_abs (exact_sum k xs) ≤ farthest
    sum_small xs n h =
        le_trans (sum_bound 2098 xs (under_law k l xs n))
        (le_trans (mul-le-mul_right (2 ^ 2098) (le_trans (in_use_length k xs) h)) many_worths)

    -- a sum of slots, as a register holds it
    pub exact : (xs : List ℕ) → Numbers k xs → length xs ≤ 4096 → wrap (exact_sum k xs) ≡ exact_sum k xs
    exact xs n h = wrap_fits half half_pos (exact_sum k xs) (omega (arith, sum_small xs n h, twice_within))

    -- c + p where 4096 numbers have the gauge
    pub power_small : (xs : List ℕ) (c p z : ℕ) → Numbers k xs → z ≤ 4096 → Ceiling z c → Peak k xs p → c + p ≤ 2110
    power_small xs c p z n h e top =
        let a = e.least 12 h in
        let b = top.least 2098 (under_law k l xs n) in
        omega arith

    -- and with a power of two added or taken away
    pub exact_up : (xs : List ℕ) (m : ℕ) → Numbers k xs → length xs ≤ 4096 → m ≤ 2110 → wrap (exact_sum k xs +ℤ pos (2 ^ m)) ≡ exact_sum k xs +ℤ pos (2 ^ m)
    exact_up xs m n h small =
        wrap_fits half half_pos (exact_sum k xs +ℤ pos (2 ^ m))
        (omega (arith, sum_size (exact_sum k xs) (pos (2 ^ m)), sum_small xs n h, power_within m small, twice_within))

    down_size : (a : ℤ) (b : ℕ) → nat_abs (a -ℤ pos b) ≤ nat_abs a + b
    down_size a b = omega (arith, ints)

    pub exact_down : (xs : List ℕ) (m : ℕ) → Numbers k xs → length xs ≤ 4096 → m ≤ 2110 → wrap (exact_sum k xs -ℤ pos (2 ^ m)) ≡ exact_sum k xs -ℤ pos (2 ^ m)
    exact_down xs m n h small =
        wrap_fits half half_pos (exact_sum k xs -ℤ pos (2 ^ m))
        (omega (arith, down_size (exact_sum k xs) (2 ^ m), sum_small xs n h, power_within m small, twice_within))
