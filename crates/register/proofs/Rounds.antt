-- Rounding from the bits at a unit, the bit below it and whether any lower bit is set.
use Rattle.std.proofs.Common.{◌≡◌, ℕ, ◌+◌, ◌-◌, ◌*◌, ◌/◌, ◌%◌, ◌^◌, ◌<◌, nat_eq, nat_lt, ◌&&◌, ◌||◌, sym, ap, ◌∙◌, subst, ⊎_elim, mul_comm, div-add-mod', mod-lt, mod-eq_of_lt, lt-ltb, le-ltb, pow_pos, arith, pow-add}
use mir.Val.{bool_byte}
use native.Mathlib.Nat.{div-div-eq-div-mul}
use Rattle.std.proofs.lemmas.Bool.{cases_lt}
use Rattle.register.specs.Limbs.{Rounded}

module _ (n q w : ℕ) where
  down : (l : ℕ) → n ≡ q * (2 * w) + l → l < w → Rounded n (2 * w) q
  down l e s = record { above = omega arith; below = omega arith; even_above = λ t. absurd (omega arith); even_below = λ t. absurd (omega arith) }

  up : (l : ℕ) → n ≡ q * (2 * w) + w + l → 0 < l → l < w → Rounded n (2 * w) (q + 1)
  up l e p s = record { above = omega arith; below = omega arith; even_above = λ t. absurd (omega arith); even_below = λ t. absurd (omega arith) }

  tie_even : n ≡ q * (2 * w) + w → q % 2 ≡ 0 → Rounded n (2 * w) q
  tie_even e z = record { above = omega arith; below = omega arith; even_above = λ t. z; even_below = λ t. z }

  tie_odd : n ≡ q * (2 * w) + w → q % 2 ≡ 1 → Rounded n (2 * w) (q + 1)
  tie_odd e z = let even : (q + 1) % 2 ≡ 0 = omega arith in record { above = omega arith; below = omega arith; even_above = λ t. even; even_below = λ t. even }

  -- h is the bit below the unit, and l what lies below that
  rounds : (h l u : ℕ) → n ≡ q * (2 * w) + h * w + l → h < 2 → l < w → u ≡ bool_byte (nat_eq h 1 && (nat_eq (q % 2) 1 || nat_lt 0 l)) → Rounded n (2 * w) (q + u)
  rounds h l u e two s is =
      let to : (r : ℕ) → r ≡ q + u → Rounded n (2 * w) r → Rounded n (2 * w) (q + u) = λ r x p. subst (Rounded n (2 * w)) x p in
      let rest = nat_eq (q % 2) 1 || nat_lt 0 l in
      ⊎_elim
      (λ k. let none : h ≡ 0 = omega arith in let zero_up : u ≡ 0 = is ∙ ap (λ x. bool_byte (nat_eq x 1 && rest)) none in to q (omega arith) (down l (e ∙ ap (λ x. q * (2 * w) + x * w + l) none ∙ omega arith) s))
      (λ k. let one : h ≡ 1 = omega arith in let sum = e ∙ ap (λ x. q * (2 * w) + x * w + l) one in let now = is ∙ ap (λ x. bool_byte (nat_eq x 1 && rest)) one in
      ⊎_elim
      (λ z. let even : q % 2 ≡ 0 = omega arith in let some = now ∙ ap (λ x. bool_byte (nat_eq x 1 || nat_lt 0 l)) even in
      ⊎_elim
      (λ p. let one_up : u ≡ 1 = some ∙ ap bool_byte (lt-ltb 0 l p) in to (q + 1) (omega arith) (up l (omega (arith, sum)) p s))
      (λ p. let zero_up : u ≡ 0 = some ∙ ap bool_byte (le-ltb 0 l p) in to q (omega arith) (tie_even (omega (arith, sum)) even))
      (cases_lt 0 l))
      (λ z. let odd : q % 2 ≡ 1 = omega arith in let one_up : u ≡ 1 = now ∙ ap (λ x. bool_byte (nat_eq x 1 || nat_lt 0 l)) odd in
      ⊎_elim
      (λ p. to (q + 1) (omega arith) (up l (omega (arith, sum)) p s))
      (λ p. to (q + 1) (omega arith) (tie_odd (omega (arith, sum)) odd))
      (cases_lt 0 l))
      (cases_lt (q % 2) 1))
      (cases_lt h 1)

-- a number at a unit 2 ^ at: the whole units, the bit below and the rest
parts : (n at : ℕ) → 0 < at → (n ≡ n / 2 ^ at * (2 * 2 ^ (at - 1)) + n / 2 ^ (at - 1) % 2 * 2 ^ (at - 1) + n % 2 ^ (at - 1)) × (2 ^ at ≡ 2 * 2 ^ (at - 1))
parts n at some =
    let w = 2 ^ (at - 1) in
    let double : 2 ^ at ≡ 2 * w = ap (λ k. 2 ^ k) (omega arith) ∙ pow-add 2 1 (at - 1) in
    let whole : n / 2 ^ at ≡ n / w / 2 = ap (λ k. n / k) (double ∙ mul_comm 2 w) ∙ sym (div-div-eq-div-mul n w 2) in
    let low = div-add-mod' n w in
    let high : n / w ≡ n / w / 2 * 2 + n / w % 2 = omega arith in
    let times = ap (λ x. x * w) high in
    (rw whole (omega (arith, low, times)), double)

-- a number rounded from its bits q at the unit, the bit below and the lower ones
pub nearest : (n at q u : ℕ) → 0 < at → n / 2 ^ at < 2 ^ 63 → q ≡ n / 2 ^ at % 2 ^ 64 → u ≡ bool_byte (nat_eq (n / 2 ^ (at - 1) % 2 ^ 64 % 2) 1 && (nat_eq (q % 2) 1 || nat_lt 0 (n % 2 ^ (at - 1)))) → Rounded n (2 ^ at) (q + u)
nearest n at q u place size qs is =
    let w = 2 ^ (at - 1) in
    let h = n / w % 2 ^ 64 in
    let p = parts n at place in
    let whole : n / 2 ^ at ≡ q = sym (qs ∙ mod-eq_of_lt (omega arith)) in
    let half : n / w % 2 ≡ h % 2 = omega arith in
    subst (λ x. Rounded n x (q + u)) (sym p.1) (rounds n q w (h % 2) (n % w) u (simp (whole, half) at p.0) (omega arith) (mod-lt n (pow_pos (at - 1))) is)
