-- The nearest number with a sign: the computed one is the one that the relation describes, the only one, and it keeps order.
use mathlib.Core.Path.{◌≡◌, refl, sym, ap, ap₂, ◌∙◌, subst}
use mathlib.Core.Logic.{◌≢◌}
use Prim.Native.Nat.{ℕ, zero, suc, ◌/◌, ◌%◌, ◌≤◌, min}
use native.Mathlib.Nat.{le_antisymm, min_comm, zero-mul}
use native.Mathlib.Omega.{arith}
use borrow.Author.Differences.{ints}
use lib.IntN.{ℤ, pos, negsuc, neg_ℤ, nat_abs, ℤ_discrete, neg_ℤ-neg_ℤ}
use lib.Signed.{◌≤ℤ◌, ≤ℤ_refl}
use Rattle.numbers.specs.Format.{Format, unit, Held, Holds, far, EvenTie, Nearest}
use Rattle.numbers.specs.Nearest.{scale_of, nearest_ℕ, nearest}
use Rattle.numbers.proofs.Rounded.{dist}
use Rattle.numbers.proofs.Scales.{lead_lt, least_is, computed_least, held_min}
use Rattle.numbers.proofs.Nearest.{nearest_ℕ_held, nearest_ℕ_near, nearest_ℕ_of_held, nearest_ℕ_tie, nearest_ℕ_tie_odd}

pub abs_neg : (z : ℤ) → nat_abs (neg_ℤ z) ≡ nat_abs z
abs_neg (pos zero) = refl
abs_neg (pos (suc n)) = refl
abs_neg (negsuc n) = refl

module _ (f : Format) where
  pub abs_nearest : (v : ℤ) → nat_abs (nearest f v) ≡ nearest_ℕ f (nat_abs v)
  unfolding nearest
  abs_nearest (pos m) = refl
  abs_nearest (negsuc m) = abs_neg (pos (nearest_ℕ f (suc m)))

  pub nearest_held : (v : ℤ) → Holds f (nearest f v)
  nearest_held v = subst (Held f) (sym (abs_nearest v)) (nearest_ℕ_held f (nat_abs v))

  pub held_zero : Held f 0
  held_zero = record { coefficient = 0; scale = 0; small = omega (arith, lead_lt f); fits = omega arith; is = sym (zero-mul (unit f 0)) }

  pub nearest_near : (v w : ℤ) → Holds f w → far (nearest f v) v ≤ far w v
  unfolding nearest
  nearest_near (pos m) (pos w) h = let n : dist (nearest_ℕ f m) m ≤ dist w m = nearest_ℕ_near f m h in omega (arith, ints)
  nearest_near (pos m) (negsuc w) h = let n : dist (nearest_ℕ f m) m ≤ dist 0 m = nearest_ℕ_near f m held_zero in omega (arith, ints)
  nearest_near (negsuc m) (pos w) h = let n : dist (nearest_ℕ f (suc m)) (suc m) ≤ dist 0 (suc m) = nearest_ℕ_near f (suc m) held_zero in omega (arith, ints)
  nearest_near (negsuc m) (negsuc w) h = let n : dist (nearest_ℕ f (suc m)) (suc m) ≤ dist (suc w) (suc m) = nearest_ℕ_near f (suc m) h in omega (arith, ints)

  pub nearest_of_held : (v : ℤ) → Holds f v → nearest f v ≡ v
  nearest_of_held v h = let n : far (nearest f v) v ≤ far v v = nearest_near v v h in omega (arith, ints)

  pub nearest_mono : (v w : ℤ) → v ≤ℤ w → nearest f v ≤ℤ nearest f w
  nearest_mono v w h =
      elim (ℤ_discrete v w) [
        | yes e ↦ subst (λ (x : ℤ). nearest f v ≤ℤ nearest f x) e (≤ℤ_refl (nearest f v))
        | no n ↦
            let x : far (nearest f v) v ≤ far (nearest f w) v = nearest_near v (nearest f w) (nearest_held w) in
            let y : far (nearest f w) w ≤ far (nearest f v) w = nearest_near w (nearest f v) (nearest_held v) in
            omega (arith, ints)
      ]

  pub nearest_neg : (v : ℤ) → nearest f (neg_ℤ v) ≡ neg_ℤ (nearest f v)
  unfolding nearest
  nearest_neg (pos zero) = let e : nearest_ℕ f 0 ≡ 0 = nearest_ℕ_of_held f held_zero in subst (λ (x : ℕ). pos x ≡ neg_ℤ (pos x)) (sym e) refl
  nearest_neg (pos (suc n)) = refl
  nearest_neg (negsuc n) = sym (neg_ℤ-neg_ℤ (pos (nearest_ℕ f (suc n))))

  -- ---- ties

  pub tie_abs : (v w : ℤ) → w ≢ nearest f v → far w v ≡ far (nearest f v) v
      → (nat_abs w ≢ nearest_ℕ f (nat_abs v)) × (dist (nat_abs w) (nat_abs v) ≡ dist (nearest_ℕ f (nat_abs v)) (nat_abs v))
  unfolding nearest
  tie_abs (pos m) (pos k) n e = (omega (arith, ints), omega (arith, ints))
  tie_abs (pos m) (negsuc k) n e = let z : dist (nearest_ℕ f m) m ≤ dist 0 m = nearest_ℕ_near f m held_zero in absurd (omega (arith, ints))
  tie_abs (negsuc m) (pos k) n e = let z : dist (nearest_ℕ f (suc m)) (suc m) ≤ dist 0 (suc m) = nearest_ℕ_near f (suc m) held_zero in (omega (arith, ints), omega (arith, ints))
  tie_abs (negsuc m) (negsuc k) n e = (omega (arith, ints), omega (arith, ints))

  pub nearest_tie : (v : ℤ) → EvenTie f v (nearest f v)
  nearest_tie v w h n e q l =
      let t = tie_abs v w n e in
      let i : q ≡ scale_of f (min (nat_abs w) (nearest_ℕ f (nat_abs v))) = least_is f l ∙ ap (λ (x : ℕ). scale_of f (min (nat_abs w) x)) (abs_nearest v) in
      ap₂ (λ (x y : ℕ). x / unit f y % 2) (abs_nearest v) i ∙ nearest_ℕ_tie f (nat_abs v) h t.0 t.1

  pub nearest_is : (v : ℤ) → Nearest f v (nearest f v)
  nearest_is v = record { held = nearest_held v; near = nearest_near v; even = nearest_tie v }

  -- the relation has one answer
  pub nearest_one : (v s : ℤ) → Nearest f v s → s ≡ nearest f v
  nearest_one v s h =
      elim (ℤ_discrete s (nearest f v)) [
        | yes e ↦ e
        | no n ↦
            let a : far s v ≤ far (nearest f v) v = h.near (nearest f v) (nearest_held v) in
            let b : far (nearest f v) v ≤ far s v = nearest_near v s h.held in
            let e : far s v ≡ far (nearest f v) v = le_antisymm a b in
            let t = tie_abs v s n e in
            let m = min (nat_abs (nearest f v)) (nat_abs s) in
            let x = h.even (nearest f v) (nearest_held v) (λ (i : nearest f v ≡ s). n (sym i)) (sym e) (scale_of f m)
            (computed_least f (held_min f (nearest_held v) h.held)) in
            let y = nearest_ℕ_tie_odd f (nat_abs v) h.held t.0 t.1 in
            let z : nat_abs s / unit f (scale_of f (min (nat_abs s) (nearest_ℕ f (nat_abs v)))) % 2 ≡ 0 =
            ap (λ (k : ℕ). nat_abs s / unit f (scale_of f k) % 2) (min_comm (nat_abs s) (nearest_ℕ f (nat_abs v)) ∙ ap (λ (k : ℕ). min k (nat_abs s)) (sym (abs_nearest v))) ∙ x in
            absurd (omega arith)
      ]
