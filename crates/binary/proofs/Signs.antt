-- Signs: the pattern of a magnitude with a sign, and sums of such.
use Rattle.std.proofs.Common.{◌≡◌, ℕ, zero, suc, ◌+◌, ◌*◌, ◌^◌, ◌<◌, ◌≤◌, Bool, true, false, cond, not, ◌&&◌, ltb, ℤ, pos, negsuc, ◌+ℤ◌, ◌-ℤ◌, ◌*ℤ◌, neg_ℤ, nat_abs, sym, refl, ap, ◌∙◌, subst, zero-mul, arith, lt-ltb, le-ltb}
use borrow.Author.Differences.{ints, up, down}
use lib.Signed.{lt_z}
use Rattle.numbers.specs.Format.{Format, Held}
use Rattle.numbers.specs.Nearest.{nearest_ℕ, nearest}
use Rattle.numbers.specs.Binary.{code, pattern, sign_bit, magnitude}
use Rattle.numbers.proofs.Signed.{nearest_neg, abs_neg, held_zero}
use Rattle.numbers.proofs.Binary.{code_zero, magnitude_of_code}
use Rattle.register.specs.Wrap.{signed_by, scaled}
use Rattle.binary.specs.Layout.{signed_code}

pub abs_signed : (b : Bool) (m : ℕ) → nat_abs (signed_by b m) ≡ m
abs_signed true m = abs_neg (pos m)
abs_signed false m = refl

neg_signed : (b : Bool) (m : ℕ) → neg_ℤ (signed_by b m) ≡ signed_by (not b) m
neg_signed true m = omega (arith, ints)
neg_signed false m = refl

pub turned : (f : Format) (z : ℤ) (b : Bool) (m s r : ℕ) → r ≡ pattern f (scaled (not b) m s) → scaled b m s ≡ z → r ≡ pattern f (neg_ℤ z)
turned f z b m s r h e = h ∙ ap (pattern f) (sym (neg_signed b (m * 2 ^ s)) ∙ ap neg_ℤ e)

-- ---- in units
pub sign_is : (v : ℤ) → v ≡ signed_by (lt_z v (pos 0)) (nat_abs v)
sign_is (pos m) = sym (ap (λ (t : Bool). signed_by t m) (le-ltb m 0 (omega arith)))
sign_is (negsuc m) = refl

apart : (b : Bool) (m n : ℕ) → n ≤ 2 * m → nat_abs (signed_by b m -ℤ signed_by b n) ≤ m
apart true m n h = omega (arith, ints)
apart false m n h = omega (arith, ints)

-- no more than twice the magnitude, taken away toward zero, leaves no greater one
pub left_small : (v : ℤ) (n : ℕ) → n ≤ 2 * nat_abs v → nat_abs (v -ℤ signed_by (lt_z v (pos 0)) n) ≤ nat_abs v
left_small v n h =
    let b = lt_z v (pos 0) in
    subst (λ (z : ℤ). nat_abs (z -ℤ signed_by b n) ≤ nat_abs v) (sym (sign_is v)) (apart b (nat_abs v) n h)

pub signed_times : (b : Bool) (m u : ℕ) → signed_by b m *ℤ pos u ≡ signed_by b (m * u)
signed_times true zero u = ap (λ (x : ℕ). signed_by false x) (zero-mul u) ∙ sym (ap (signed_by true) (zero-mul u))
signed_times true (suc m) u = refl
signed_times false m u = refl

pub in_units : (v : ℤ) (u : ℕ) → v *ℤ pos u ≡ signed_by (lt_z v (pos 0)) (nat_abs v * u)
in_units v u = ap (λ (z : ℤ). z *ℤ pos u) (sign_is v) ∙ signed_times (lt_z v (pos 0)) (nat_abs v) u

pub sum_times : (a b : ℤ) (u : ℕ) → (a +ℤ b) *ℤ pos u ≡ a *ℤ pos u +ℤ b *ℤ pos u
sum_times a b u =
    let e : up (a +ℤ b) + (down a + down b) ≡ down (a +ℤ b) + (up a + up b) = omega (arith, ints) in
    let t = ap (λ (x : ℕ). x * u) e in
    omega (arith, ints)

pub difference_times : (a b : ℤ) (u : ℕ) → (a -ℤ b) *ℤ pos u ≡ a *ℤ pos u -ℤ b *ℤ pos u
difference_times a b u =
    let e : up (a -ℤ b) + (down a + up b) ≡ down (a -ℤ b) + (up a + down b) = omega (arith, ints) in
    let t = ap (λ (x : ℕ). x * u) e in
    omega (arith, ints)

module _ (f : Format) where
  pub nearest_signed : (b : Bool) (m : ℕ) → nearest f (signed_by b m) ≡ signed_by b (nearest_ℕ f m)
  unfolding nearest
  nearest_signed true m = nearest_neg f (pos m)
  nearest_signed false m = refl

  module _ (bin : f.radix ≡ 2) where
    some_code : (m : ℕ) → Held f (suc m) → 0 < code f (suc m)
    some_code m h = go (code f (suc m)) refl
      where
        go : (c : ℕ) → code f (suc m) ≡ c → 0 < c
        go zero e =
            let a = ap (magnitude f) (e ∙ sym (code_zero f)) in
            let b = magnitude_of_code f bin h in
            let z = magnitude_of_code f bin (held_zero f) in
            absurd (omega arith)
        go (suc c) e = omega arith

    pub pattern_signed : (b : Bool) (m : ℕ) → Held f m → pattern f (signed_by b m) ≡ signed_code f b (code f m)
    unfolding pattern
    pattern_signed false m h = refl
    pattern_signed true zero h = code_zero f ∙ sym (ap (λ (x : ℕ). cond (true && ltb 0 x) (sign_bit f + x) x) (code_zero f))
    pattern_signed true (suc m) h =
        sym (ap (λ (t : Bool). cond (true && t) (sign_bit f + code f (suc m)) (code f (suc m))) (lt-ltb 0 (code f (suc m)) (some_code m h)))
