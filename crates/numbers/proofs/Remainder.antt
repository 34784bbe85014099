-- What the nearest number leaves of the sum of two numbers: it is held, and no greater than either.
use mathlib.Core.Path.{◌≡◌, refl, sym, subst}
use mathlib.Core.Logic.{◌⊎◌, inl, inr}
use Prim.Native.Nat.{ℕ, ◌+◌, ◌*◌, ◌/◌, ◌≤◌, ◌<◌, ◌∣◌}
use native.Mathlib.Nat.{le_trans, le_of_eq, le_refl, dvd-add, dvd-sub, div-mul_cancel, le_of_mul-le-mul_right, lt_of_le_of_lt, dvd-mul_left_of_dvd}
use native.Mathlib.Decide.{dec_le}
use native.Mathlib.Omega.{arith}
use borrow.Author.Differences.{ints}
use lib.IntN.{ℤ, pos, negsuc, neg_ℤ, nat_abs, ◌+ℤ◌}
use Rattle.numbers.specs.Format.{Format, bound, unit, Held, Holds, far}
use Rattle.numbers.specs.Nearest.{nearest, remainder}
use Rattle.numbers.proofs.Rounded.{dist}
use Rattle.numbers.proofs.Scales.{unit_pos, unit_dvd}
use Rattle.numbers.proofs.Nearest.{nearest_ℕ_mult}
use Rattle.numbers.proofs.Signed.{abs_neg, abs_nearest, nearest_near}

abs_sum : (a b : ℤ) → (nat_abs (a +ℤ b) ≡ nat_abs a + nat_abs b) ⊎ (nat_abs (a +ℤ b) ≡ dist (nat_abs a) (nat_abs b))
abs_sum (pos a) (pos b) = inl refl
abs_sum (pos a) (negsuc b) = inr (omega (arith, ints))
abs_sum (negsuc a) (pos b) = inr (omega (arith, ints))
abs_sum (negsuc a) (negsuc b) = inl (omega arith)

dvd_sum : (u : ℕ) (a b : ℤ) → u ∣ nat_abs a → u ∣ nat_abs b → u ∣ nat_abs (a +ℤ b)
dvd_sum u a b x y =
    elim (abs_sum a b) [
      | inl e ↦ subst (λ (n : ℕ). u ∣ n) (sym e) (dvd-add u x y)
      | inr e ↦ subst (λ (n : ℕ). u ∣ n) (sym e) (dvd-add u (dvd-sub u x y) (dvd-sub u y x))
    ]

module _ (f : Format) where
  small_part : (z : ℤ) (p c : ℕ) → c < bound f → p ≤ f.scales → unit f p ∣ nat_abs z → nat_abs z ≤ c * unit f p → Holds f z
  small_part z p c l k d h =
      let e : nat_abs z / unit f p * unit f p ≡ nat_abs z = div-mul_cancel (unit f p) d in
      record {
        coefficient = nat_abs z / unit f p;
        scale = p;
        small = lt_of_le_of_lt (le_of_mul-le-mul_right (le_trans (le_of_eq e) h) (unit_pos f p)) l;
        fits = k;
        is = sym e;
      }

  pub remainder_le_left : (a b : ℤ) → Holds f b → nat_abs (remainder f a b) ≤ nat_abs a
  remainder_le_left a b h = let n : far (nearest f (a +ℤ b)) (a +ℤ b) ≤ far b (a +ℤ b) = nearest_near f (a +ℤ b) b h in omega (arith, ints)

  pub remainder_le_right : (a b : ℤ) → Holds f a → nat_abs (remainder f a b) ≤ nat_abs b
  remainder_le_right a b h = let n : far (nearest f (a +ℤ b)) (a +ℤ b) ≤ far a (a +ℤ b) = nearest_near f (a +ℤ b) a h in omega (arith, ints)

  held_dvd : {m : ℕ} (h : Held f m) {p : ℕ} → p ≤ h.scale → unit f p ∣ m
  held_dvd h {p} l = subst (λ (x : ℕ). unit f p ∣ x) (sym h.is) (dvd-mul_left_of_dvd (unit f p) (unit_dvd f l) h.coefficient)

  remainder_dvd : (a b : ℤ) {p : ℕ} → p ≤ f.scales → unit f p ∣ nat_abs a → unit f p ∣ nat_abs b → unit f p ∣ nat_abs (remainder f a b)
  remainder_dvd a b {p} l x y =
      let t = a +ℤ b in
      let d : unit f p ∣ nat_abs t = dvd_sum (unit f p) a b x y in
      let s : unit f p ∣ nat_abs (nearest f t) = subst (λ (x : ℕ). unit f p ∣ x) (sym (abs_nearest f t)) (nearest_ℕ_mult f l d) in
      dvd_sum (unit f p) t (neg_ℤ (nearest f t)) d (subst (λ (x : ℕ). unit f p ∣ x) (sym (abs_neg (nearest f t))) s)

  pub remainder_held : (a b : ℤ) → Holds f a → Holds f b → Holds f (remainder f a b)
  remainder_held a b x y =
      elim (dec_le x.scale y.scale) [
        | yes l ↦
            small_part (remainder f a b) x.scale x.coefficient x.small x.fits
            (remainder_dvd a b x.fits (held_dvd x (le_refl x.scale)) (held_dvd y l))
            (le_trans (remainder_le_left a b y) (le_of_eq x.is))
        | no l ↦
            small_part (remainder f a b) y.scale y.coefficient y.small y.fits
            (remainder_dvd a b y.fits (held_dvd x (omega arith)) (held_dvd y (le_refl y.scale)))
            (le_trans (remainder_le_right a b x) (le_of_eq y.is))
      ]

  pub adds_up : (a b : ℤ) → nearest f (a +ℤ b) +ℤ remainder f a b ≡ a +ℤ b
  adds_up a b = omega (arith, ints)
