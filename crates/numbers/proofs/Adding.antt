-- What code that adds by coefficients and scales needs: a sum at a common scale is rounded there, and an addend that is too small is left over whole.
use mathlib.Core.Path.{◌≡◌, sym, ap, ◌∙◌}
use mathlib.Core.Logic.{◌⊎◌, ◌≢◌, inl, inr}
use Prim.Native.Nat.{ℕ, suc, ◌+◌, ◌*◌, ◌≤◌, ◌<◌, min}
use native.Mathlib.Nat.{le_trans, le_of_eq, lt_of_lt_of_le, mul-lt-mul_of_pos_right, mul-le-mul_right, mul_assoc, mul_comm, pow-succ', mul-le-mul, le-suc}
use native.Mathlib.Decide.{dec_le, ℕ_discrete}
use native.Mathlib.Omega.{arith}
use borrow.Author.Differences.{ints}
use lib.IntN.{ℤ, nat_abs, ◌+ℤ◌}
use lib.Pow.{pow-add}
use lib.Ieee.Nearest.{closest, closest_same}
use Rattle.numbers.specs.Format.{Format, bound, unit, Held, Holds, far, top}
use Rattle.numbers.specs.Nearest.{scale_of, nearest_ℕ, nearest}
use Rattle.numbers.proofs.Rounded.{dist}
use Rattle.numbers.proofs.Scales.{Scaled, scaled, scaled_one, unit_pos, unit_mono, held_mult}
use Rattle.numbers.proofs.Rounded.{side}
use Rattle.numbers.proofs.Binary.{lead_pos}
use Rattle.numbers.proofs.Signed.{nearest_held, nearest_near}

module _ (f : Format) where
  -- ---- n units of scale p, with e digits too many
  pub shifted : (n p e : ℕ) → p + e ≤ f.scales → n < bound f * unit f e → (p + e ≡ 0) ⊎ (f.lead * unit f e ≤ n) → Scaled f (n * unit f p) (p + e)
  shifted n p e l b k =
      let s : unit f (p + e) ≡ unit f p * unit f e = pow-add f.radix p e in
      record {
        within = l;
        enough =
            inl (lt_of_lt_of_le (mul-lt-mul_of_pos_right b (unit_pos f p))
            (le_of_eq (mul_assoc (bound f) (unit f e) (unit f p) ∙ ap (λ (x : ℕ). bound f * x) (sym (s ∙ mul_comm (unit f p) (unit f e))))));
        needed =
            elim k [
              | inl z ↦ inl z
              | inr h ↦
                  inr (le_trans (le_of_eq (ap (λ (x : ℕ). f.lead * x) (s ∙ mul_comm (unit f p) (unit f e)) ∙ sym (mul_assoc f.lead (unit f e) (unit f p))))
                  (mul-le-mul_right (unit f p) h))
            ];
      }

  pub nearest_ℕ_shifted : (n p e : ℕ) → p + e ≤ f.scales → n < bound f * unit f e → (p + e ≡ 0) ⊎ (f.lead * unit f e ≤ n)
      → nearest_ℕ f (n * unit f p) ≡ min (closest n (unit f e) * unit f (p + e)) (top f)
  unfolding nearest_ℕ
  nearest_ℕ_shifted n p e l b k =
      let q : scale_of f (n * unit f p) ≡ p + e = scaled_one f (scaled f (n * unit f p)) (shifted n p e l b k) in
      let s : unit f (p + e) ≡ unit f p * unit f e = pow-add f.radix p e in
      let c : closest (n * unit f p) (unit f (p + e)) ≡ closest n (unit f e) =
      closest_same (n * unit f p) (unit f (p + e)) n (unit f e) (unit_pos f (p + e)) (unit_pos f e)
      (mul_assoc n (unit f p) (unit f e) ∙ ap (λ (x : ℕ). n * x) (sym s)) in
      ap (λ (x : ℕ). min (closest (n * unit f p) (unit f x) * unit f x) (top f)) q ∙ ap (λ (x : ℕ). min (x * unit f (p + e)) (top f)) c

  -- ---- no number lies within a smaller unit of one that needs its scale
  lonely : (c q : ℕ) → c < bound f → f.lead ≤ c → {w : ℕ} → Held f w → w ≢ c * unit f (suc q) → unit f q ≤ dist w (c * unit f (suc q))
  lonely c q l k {w} h n =
      let u = unit f q in
      let d = c * f.radix in
      let a : c * unit f (suc q) ≡ d * u = ap (λ (x : ℕ). c * x) (pow-succ' f.radix q) ∙ sym (mul_assoc c f.radix u) in
      elim (dec_le (f.lead * u) w) [
        | yes g ↦
            let j = held_mult f h (inr g) in
            let W : w ≡ j.0 * u = j.1 in
            let x = side d j.0 u in
            let y = side j.0 d u in
            omega arith
        | no g ↦
            let x : f.lead * 2 * u ≤ d * u = mul-le-mul_right u (mul-le-mul k f.two) in
            let y : 1 * u ≤ f.lead * u = mul-le-mul_right u (lead_pos f) in
            omega arith
      ]

  pub absorbed : (a b : ℤ) (c q : ℕ) → c < bound f → f.lead ≤ c → suc q ≤ f.scales → nat_abs a ≡ c * unit f (suc q) → 2 * nat_abs b < unit f q
      → nearest f (a +ℤ b) ≡ a
  absorbed a b c q l k t e s =
      let z = nearest f (a +ℤ b) in
      let h : Holds f z = nearest_held f (a +ℤ b) in
      let m : Holds f a = record { coefficient = c; scale = suc q; small = l; fits = t; is = e } in
      let x : far z (a +ℤ b) ≤ far a (a +ℤ b) = nearest_near f (a +ℤ b) a m in
      elim (ℕ_discrete (nat_abs z) (nat_abs a)) [
        | yes i ↦
            let o : 1 * unit f (suc q) ≤ c * unit f (suc q) = mul-le-mul_right (unit f (suc q)) (le_trans (lead_pos f) k) in
            let y : unit f q ≤ nat_abs a = omega (arith, unit_mono f (le-suc q)) in
            omega (arith, ints)
        | no i ↦
            let y : unit f q ≤ dist (nat_abs z) (c * unit f (suc q)) = lonely c q l k h (λ (j : nat_abs z ≡ c * unit f (suc q)). i (j ∙ sym e)) in
            absurd (omega (arith, ints))
      ]
