-- The pattern of a nearest number by one sum: that of its scale and its rounded coefficient, and no more than the top's.
use mathlib.Core.Path.{◌≡◌, refl, sym, ap, ◌∙◌, subst}
use mathlib.Core.Logic.{◌⊎◌, inl, inr}
use Prim.Native.Nat.{ℕ, suc, ◌+◌, ◌-◌, ◌*◌, ◌/◌, ◌%◌, ◌≤◌, ◌<◌, min, compare}
use native.Mathlib.Nat.{le_trans, le_of_eq, le_refl, mul-le-mul_right, mul-lt-mul_of_pos_right, le-div_iff_mul-le, div-lt_iff_lt-mul, min-eq_left, min-eq_right, suc-mul}
use native.Mathlib.Decide.{dec_le}
use native.Mathlib.Omega.{arith}
use lib.Ieee.Nearest.{closest, nearest-ge}
use Rattle.numbers.specs.Format.{Format, bound, unit, top}
use Rattle.numbers.specs.Nearest.{scale_of, nearest_ℕ}
use Rattle.numbers.specs.Binary.{code}
use Rattle.numbers.proofs.Rounded.{closest_is}
use Rattle.numbers.proofs.Scales.{Scaled, scaled, scaled_one, unit_pos, lead_lt, held_le_top, next}
use Rattle.numbers.proofs.Nearest.{nearest_ℕ_is}
use Rattle.numbers.proofs.Binary.{code_of, bound_is}

module _ (f : Format) (bin : f.radix ≡ 2) where
  -- ---- the pattern: the scale's and the rounded coefficient's, summed, and no more than the top's
  pub code_top : code f (top f) ≡ f.scales * f.lead + (bound f - 1)
  code_top = code_of f (bound f - 1) f.scales (omega (arith, f.three)) (le_refl f.scales) (inr (omega (arith, bound_is f bin, f.three)))

  pub code_nearest : (m : ℕ)
      → (let q = scale_of f m in code f (nearest_ℕ f m) ≡ min (q * f.lead + closest m (unit f q)) (f.scales * f.lead + (bound f - 1)))
  code_nearest m =
      let q = scale_of f m in
      let u = unit f q in
      let n = closest m u in
      let s : Scaled f m q = scaled f m in
      let g : m / u ≤ n = nearest-ge (m / u) (compare (m % u * 2) u) in
      let L = f.lead in
      elim (nearest_ℕ_is f m) [
        | inl t ↦
            let w : q * L ≤ f.scales * L = mul-le-mul_right L s.within in
            let i : (q ≡ 0) ⊎ (L ≤ n) = elim s.needed [ inl z ↦ inl z | inr h ↦ inr (le_trans ((le-div_iff_mul-le (unit_pos f q)).1 h) g) ] in
            elim (dec_le (suc n) (bound f)) [
              | yes l ↦ ap (code f) t.0 ∙ code_of f n q l s.within i ∙ sym (min-eq_left (omega arith))
              | no l ↦
                  elim (dec_le (suc q) f.scales) [
                    | yes j ↦
                        let b : m < bound f * u = elim s.enough [ inl b ↦ b | inr z ↦ absurd (omega arith) ] in
                        let d : m / u < bound f = (div-lt_iff_lt-mul (unit_pos f q)).1 b in
                        let c : n ≡ bound f = elim (closest_is m u) [ inl z ↦ omega arith | inr z ↦ omega arith ] in
                        let x : suc q * L ≤ f.scales * L = mul-le-mul_right L j in
                        let y : suc q * L ≡ q * L + L = suc-mul q L in
                        ap (code f) (t.0 ∙ ap (λ (z : ℕ). z * u) c ∙ next f q)
                        ∙ code_of f L (suc q) (lead_lt f) j (inr (le_refl L))
                        ∙ sym (min-eq_left (omega (arith, bound_is f bin, lead_lt f)) ∙ omega (arith, bound_is f bin))
                    | no j ↦
                        let z : q ≡ f.scales = omega (arith, s.within) in
                        let a : n * u ≤ top f = held_le_top f t.1 in
                        let b : bound f * u ≤ n * u = mul-le-mul_right u (omega arith) in
                        let c : top f < bound f * u =
                        subst (λ (x : ℕ). (bound f - 1) * unit f x < bound f * u) z (mul-lt-mul_of_pos_right (omega (arith, f.three)) (unit_pos f q)) in
                        absurd (omega arith)
                  ]
            ]
        | inr t ↦
            let k : L ≤ bound f - 1 = omega (arith, lead_lt f) in
            let z : q ≡ f.scales =
            scaled_one f s
            (record { within = le_refl f.scales; enough = inr refl; needed = inr (le_trans (mul-le-mul_right (unit f f.scales) k) t.1) }) in
            let a : bound f - 1 ≤ m / u =
            (le-div_iff_mul-le (unit_pos f q)).1 (le_trans (le_of_eq (ap (λ (x : ℕ). (bound f - 1) * unit f x) z)) t.1) in
            let b : q * L ≡ f.scales * L = ap (λ (x : ℕ). x * L) z in
            ap (code f) t.0 ∙ code_top ∙ sym (min-eq_right (omega arith))
      ]
