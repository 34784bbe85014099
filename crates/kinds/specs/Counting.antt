-- The count kind's meanings, by ranges: what its code computes.
use Rattle.std.specs.Prelude.{◌≡◌, ℕ, suc, ◌-◌, ◌/◌, ◌%◌, ◌^◌, ◌<◌, ◌≤◌, min, Bool, true, false, cond, not, T, ℤ, pos, negsuc, ◌+ℤ◌, ◌-ℤ◌, neg_ℤ, Ok, Err, ◌==◌, ◌≢◌, int_lt, nat_lt, unsigned_abs, refl}
use Rattle.std.proofs.Common.{sym, ap, ◌∙◌, div-one, mod-eq_of_lt, lt_of_lt_of_le, mul-one, arith, lt-ltb, le-ltb, eqb-true, ltb→lt, lt→ltb, lit<, pow_mono}
use Rattle.std.proofs.Math.Decide.{dec_le}
use Rattle.std.proofs.lemmas.Int.{ints, clamps}
use Rattle.std.proofs.lemmas.Bool.{eqb-false}
use mir.Val.{sel}
use Rattle.std.specs.Int.{w32, cast_signed, cast_unsigned, int_max, int_min}
use Rattle.refusals.specs.declared.Refusal.{Refusal}
use Rattle.refusals.specs.declared.Refusal.TheVariants.{AboveRange, BelowRange}
use Rattle.numbers.specs.Nearest.{nearest_ℕ, nearest}
use Rattle.numbers.specs.Coding.{Codes, adder, outcome}
use Rattle.numbers.specs.Outcome.{told_by, number}
use Rattle.numbers.proofs.Binary.{and_left, and_right, and_both}
use Rattle.numbers.proofs.Signed.{nearest_of_held}
use Rattle.numbers.proofs.Outcomes.{outcome_inside, outcome_over, outcome_under}
use Rattle.register.specs.Limbs.{LeastBits}
use Rattle.register.specs.Wrap.{signed_by, scaled}
use Rattle.binary.proofs.Signs.{sign_is}
use Rattle.kinds.specs.Answer.{answered}
use Rattle.kinds.specs.Count.{litres, is_count, count_worth, count_pattern, counts}
use Rattle.kinds.specs.Flat.{below_all, held_all, nearest_flat}

-- ---- patterns and worths
pub worth_low : (p : ℕ) → p < 2 ^ 31 → count_worth p ≡ pos p
unfolding count_worth
worth_low p l = ap (λ (t : Bool). cond t (pos p) (neg_ℤ (pos (2 ^ 32 - p)))) (lt-ltb p (2 ^ 31) l)

pub worth_high : (p : ℕ) → 2 ^ 31 ≤ p → count_worth p ≡ neg_ℤ (pos (2 ^ 32 - p))
unfolding count_worth
worth_high p h = ap (λ (t : Bool). cond t (pos p) (neg_ℤ (pos (2 ^ 32 - p)))) (le-ltb p (2 ^ 31) h)

not_eq : (m n : ℕ) → T (not (m == n)) → m ≢ n
not_eq m n = go (m == n) refl
  where
    go : (b : Bool) → (m == n) ≡ b → T (not b) → m ≢ n
    go true e t = absurd t
    go false e t = eqb-false m n e

eq_not : (m n : ℕ) → (m ≢ n) → T (not (m == n))
eq_not m n h = go (m == n) refl
  where
    go : (b : Bool) → (m == n) ≡ b → T (not b)
    go true e = absurd (h (eqb-true m n e))
    go false e = tt

-- a number has 32 bits, and is below 2 ^ 31 in magnitude
pub number_out : (p : ℕ) → T (is_count p) → (p < 2 ^ 32) × (unsigned_abs (count_worth p) < 2 ^ 31)
number_out p t =
    let l = ltb→lt p (2 ^ 32) (and_left (nat_lt p (2 ^ 32)) (not (p == 0x8000_0000)) t) in
    let n = not_eq p 0x8000_0000 (and_right (nat_lt p (2 ^ 32)) (not (p == 0x8000_0000)) t) in
    elim (dec_le (2 ^ 31) p) [
      | yes h ↦ (l, omega (arith, ints, worth_high p h))
      | no h ↦ (l, omega (arith, ints, worth_low p (omega arith)))
    ]

number_in : (p : ℕ) → p < 2 ^ 32 → (p ≢ 0x8000_0000) → T (is_count p)
number_in p l n = and_both (nat_lt p (2 ^ 32)) (not (p == 0x8000_0000)) (lt→ltb p (2 ^ 32) l) (eq_not p 0x8000_0000 n)

-- ---- two's complement by the library
pub worth_is : (p : ℕ) → p < 2 ^ 32 → cast_signed w32 p ≡ count_worth p
worth_is p l =
    elim (dec_le (2 ^ 31) p) [
      | yes h ↦
          ap (λ (t : Bool). sel t (pos p) (negsuc (2 ^ 32 - suc p))) (le-ltb p (2 ^ 31) h) ∙ (let e : negsuc (2 ^ 32 - suc p) ≡ neg_ℤ (pos (2 ^ 32 - p)) = omega (arith, ints) in e) ∙ sym (worth_high p h)
      | no h ↦
          let b : p < 2 ^ 31 = omega arith in
          ap (λ (t : Bool). sel t (pos p) (negsuc (2 ^ 32 - suc p))) (lt-ltb p (2 ^ 31) b) ∙ sym (worth_low p b)
    ]

pub pattern_is : (z : ℤ) → cast_unsigned w32 z ≡ count_pattern z
unfolding count_pattern
pattern_is (pos m) = refl
pattern_is (negsuc m) = refl

pub scaled_is : (z : ℤ) → scaled (int_lt z (pos 0)) (unsigned_abs z) 0 ≡ z
scaled_is z = ap (signed_by (int_lt z (pos 0))) (mul-one (unsigned_abs z)) ∙ sym (sign_is z)

back : (z : ℤ) → unsigned_abs z < 2 ^ 31 → count_worth (count_pattern z) ≡ z
unfolding count_pattern
back (pos m) l = worth_low m l
back (negsuc m) l = worth_high (2 ^ 32 - suc m) (omega arith) ∙ ap (λ (x : ℕ). neg_ℤ (pos x)) (let e : 2 ^ 32 - (2 ^ 32 - suc m) ≡ suc m = omega arith in e)

made : (z : ℤ) → unsigned_abs z < 2 ^ 31 → T (is_count (count_pattern z))
unfolding count_pattern
made (pos m) l = number_in m (omega arith) (λ (e : m ≡ 0x8000_0000). omega arith)
made (negsuc m) l = number_in (2 ^ 32 - suc m) (omega arith) (λ (e : 2 ^ 32 - suc m ≡ 0x8000_0000). omega arith)

pub codes : Codes counts
unfolding count_pattern
codes =
    record {
      held = λ p t. held_all litres refl (unsigned_abs (count_worth p)) (number_out p t).1;
      made = λ z h. made z (below_all litres refl h);
      back = λ z h. back z (below_all litres refl h);
      none = refl;
      low = lit< tt;
    }

-- ---- the nearest count
nearest_count : (m : ℕ) → nearest_ℕ litres m ≡ min m 2147483647
nearest_count m = nearest_flat litres refl m

pub clamp_is : (z : ℤ) → int_max (negsuc 2147483646) (int_min z (pos 2147483647)) ≡ nearest litres z
unfolding nearest
clamp_is (pos m) = let e = nearest_count m in omega (arith, ints, clamps)
clamp_is (negsuc m) = let e = nearest_count (suc m) in omega (arith, ints, clamps)

pub nearest_inside : (z : ℤ) → unsigned_abs z < 2 ^ 31 → nearest litres z ≡ z
nearest_inside z l = nearest_of_held litres z (held_all litres refl (unsigned_abs z) l)

-- ---- the adder
pub added : (a b s r : ℕ) (t k u v : ℤ) → s ≡ count_pattern u → r ≡ count_pattern v → k ≡ int_max (negsuc 2147483646) (int_min t (pos 2147483647)) → u ≡ k → v ≡ t -ℤ u
    → t ≡ count_worth a +ℤ count_worth b → ◌≡◌ {A = ℕ × ℕ} (s, r) (adder counts a b)
added a b s r t k u v i j h l d e =
    let n : u ≡ nearest litres (count_worth a +ℤ count_worth b) = l ∙ h ∙ clamp_is t ∙ ap (nearest litres) e in
    let first : s ≡ (adder counts a b).0 = i ∙ ap count_pattern n in
    let rest : r ≡ (adder counts a b).1 = j ∙ ap count_pattern (d ∙ ap (λ (z : ℤ). z -ℤ u) e ∙ ap (λ (z : ℤ). (count_worth a +ℤ count_worth b) -ℤ z) n) in
    λ i. (first i, rest i)

-- ---- readings, by the sum's sign and the number of its bits
module _ (v : ℤ) (m b : ℕ) (is : m ≡ unsigned_abs v) (size : LeastBits m b) where
  long : 31 < b → 2 ^ 31 ≤ unsigned_abs v
  long h =
      elim (dec_le (2 ^ 31) m) [
        | yes l ↦ omega arith
        | no l ↦ let few : b ≤ 31 = size.least 31 (omega arith) in absurd (omega arith)
      ]

  short : b ≤ 31 → unsigned_abs v < 2 ^ 31
  short h = let l : m < 2 ^ 31 = lt_of_lt_of_le size.enough (pow_mono h) in omega arith

  pub reads_past : (n : Bool) (r : Refusal) → 31 < b → n ≡ int_lt v (pos 0) → r ≡ cond n BelowRange AboveRange → Err r ≡ answered (outcome counts v)
  reads_past true r h s e = let l = long h in ap Err e ∙ sym (ap (λ o. answered (told_by count_pattern o)) (outcome_under litres v (omega (arith, ints))))
  reads_past false r h s e = let l = long h in ap Err e ∙ sym (ap (λ o. answered (told_by count_pattern o)) (outcome_over litres v (omega (arith, ints))))

  -- few bits are their lowest window, and the sum is a number itself
  pub window_is : (u : ℕ) → b ≤ 31 → u ≡ m / 2 ^ 0 % 2 ^ 64 → (u ≡ unsigned_abs v) × (unsigned_abs v < 2 ^ 31)
  window_is u h e = let l = short h in (e ∙ ap (λ (x : ℕ). x % 2 ^ 64) (div-one m) ∙ mod-eq_of_lt (omega arith) ∙ is, l)

  pub reads : (u : ℕ) (z : ℤ) → b ≤ 31 → u ≡ count_pattern z → z ≡ v → Ok u ≡ answered (outcome counts v)
  reads u z h e i =
      let l = short h in ap Ok (e ∙ ap count_pattern i) ∙ sym (ap (λ o. answered (told_by count_pattern o)) (outcome_inside litres v l ∙ ap number (nearest_inside v l)))

pub ruleset counting = (ints, clamps, number_out, scaled_is, reads_past)
