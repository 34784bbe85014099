-- Where a magnitude is out of range, by its rounded coefficient.
use Rattle.std.proofs.Common.{◌≡◌, ℕ, suc, ◌+◌, ◌-◌, ◌*◌, ◌/◌, ◌%◌, ◌^◌, ◌<◌, ◌≤◌, ◌≢◌, sym, ap, ◌∙◌, subst, mul-le-mul_right, suc-mul, add-mul, mul-le-mul_left, arith, pow_pos}
use native.Mathlib.Nat.{eq_of_mul-eq-mul_right}
use native.Mathlib.Decide.{dec_le, ℕ_discrete}
use lib.Ieee.Nearest.{closest}
use Rattle.numbers.specs.Format.{Format, bound, unit, top}
use Rattle.numbers.specs.Nearest.{edge}
use Rattle.numbers.proofs.Rounded.{dist}
use Rattle.numbers.proofs.Rounded.{closest_near, closest_tie, side}
use Rattle.numbers.proofs.Scales.{unit_mono, next}
use Rattle.numbers.proofs.Binary.{lead_pos}
use Rattle.register.specs.Limbs.{Rounded}
use Rattle.binary.specs.Layout.{Layout, top_code}
use Rattle.binary.proofs.Nearby.{two, bound_twice, few, top_two, below_last, at_last}
use Rattle.binary.proofs.Rounds.{twice}

-- the register rounds to the same number
pub closest_of : (n u r : ℕ) → 0 < u → Rounded n u r → r ≡ closest n u
closest_of n u r h x =
    elim (ℕ_discrete r (closest n u)) [
      | yes e ↦ e
      | no d ↦
          let c = closest n u in
          let q = n / u in
          let ne : r * u ≢ c * u = λ (i : r * u ≡ c * u). d (eq_of_mul-eq-mul_right u h r c i) in
          let a : dist (c * u) n ≤ dist (r * u) n = closest_near n r h in
          let s = side c r u in
          let t = side r c u in
          let e : dist (r * u) n ≡ dist (c * u) n = omega (arith, x.above, x.below) in
          let z = closest_tie n r h ne e in
          let w : r + c ≡ q + suc q = eq_of_mul-eq-mul_right u h (r + c) (q + suc q) (add-mul r c u ∙ z.2 ∙ sym (add-mul q (suc q) u)) in
          let even : r % 2 ≡ 0 =
          elim (dec_le (r * u) n) [
            | yes l ↦ x.even_above (omega (arith, x.above, x.below))
            | no l ↦ x.even_below (omega (arith, x.above, x.below))
          ] in
          absurd (omega (arith, z.0))
    ]

module _ (f : Format) (k : ℕ) (lay : Layout f k) where
  edge_twice : 2 * edge f ≡ 2 * top f + 2 ^ f.scales
  edge_twice =
      let u : unit f f.scales ≡ 2 ^ f.scales = two f k lay f.scales in
      let d : 2 ^ f.scales ≡ 2 * 2 ^ (f.scales - 1) = twice f.scales lay.long in
      omega arith

  past_top : top f + 2 ^ f.scales ≡ bound f * 2 ^ f.scales
  past_top =
      let u = 2 ^ f.scales in
      let a : top f ≡ (bound f - 1) * u = top_two f k lay in
      let b : bound f ≡ suc (bound f - 1) = omega (arith, f.three) in
      let c : bound f * u ≡ suc (bound f - 1) * u = ap (λ (x : ℕ). x * u) b in
      omega (arith, suc-mul (bound f - 1) u)

  top_most : (m : ℕ) → bound f * 2 ^ f.scales ≤ m → edge f ≤ m
  top_most m h = omega (arith, edge_twice, past_top)

  pub out_long : (m e : ℕ) → f.scales < e → f.lead * 2 ^ e ≤ m → edge f ≤ m
  out_long m e l h =
      let a : f.lead * unit f (suc f.scales) ≤ f.lead * unit f e = mul-le-mul_left f.lead (unit_mono f l) in
      let b : bound f * unit f f.scales ≡ f.lead * unit f (suc f.scales) = next f f.scales in
      let c : f.lead * unit f e ≡ f.lead * 2 ^ e = ap (λ (x : ℕ). f.lead * x) (two f k lay e) in
      let d : bound f * unit f f.scales ≡ bound f * 2 ^ f.scales = ap (λ (x : ℕ). bound f * x) (two f k lay f.scales) in
      top_most m (omega arith)

  pub in_short : (m : ℕ) → m < bound f → m < edge f
  in_short m h =
      let a : (bound f - 1) * 1 ≤ top f = mul-le-mul_left (bound f - 1) (subst (λ (x : ℕ). 1 ≤ x) (sym (two f k lay f.scales)) (pow_pos f.scales)) in
      omega (arith, edge_twice, pow_pos f.scales)

  -- at the greatest scale
  in_last : (m : ℕ) → m < bound f * 2 ^ f.scales → closest m (2 ^ f.scales) ≤ bound f - 1 → m < edge f
  in_last m b l =
      let u = 2 ^ f.scales in
      let n = closest m u in
      elim (dec_le (edge f) m) [
        | no h ↦ omega arith
        | yes h ↦
            let t : top f ≡ (bound f - 1) * u = top_two f k lay in
            let c : n * u ≤ (bound f - 1) * u = mul-le-mul_right u l in
            let d : dist (n * u) m ≤ dist (bound f * u) m = closest_near m (bound f) (pow_pos f.scales) in
            let E : 2 * edge f ≡ 2 * top f + u = edge_twice in
            let P : top f + u ≡ bound f * u = past_top in
            let i : n * u ≡ (bound f - 1) * u = omega arith in
            let j : n ≡ bound f - 1 = eq_of_mul-eq-mul_right u (pow_pos f.scales) n (bound f - 1) i in
            let z = closest_tie m (bound f) (pow_pos f.scales) (omega (arith, pow_pos f.scales)) (let w : dist (bound f * u) m ≡ dist (n * u) m = omega arith in w) in
            absurd (omega (arith, z.0, bound_twice f k lay, lead_pos f))
      ]

  out_last : (m : ℕ) → m < bound f * 2 ^ f.scales → closest m (2 ^ f.scales) ≡ bound f → edge f ≤ m
  out_last m b e =
      let u = 2 ^ f.scales in
      let t : top f ≡ (bound f - 1) * u = top_two f k lay in
      let c : closest m u * u ≡ bound f * u = ap (λ (x : ℕ). x * u) e in
      let d : dist (closest m u * u) m ≤ dist ((bound f - 1) * u) m = closest_near m (bound f - 1) (pow_pos f.scales) in
      let E : 2 * edge f ≡ 2 * top f + u = edge_twice in
      let P : top f + u ≡ bound f * u = past_top in
      omega (arith, pow_pos f.scales)

  pub in_edge : (m e : ℕ) → e ≤ f.scales → m < bound f * 2 ^ e → e * f.lead + closest m (2 ^ e) ≤ top_code f → m < edge f
  in_edge m e l b h =
      elim (dec_le (suc e) f.scales) [
        | yes j ↦ omega (arith, below_last f k lay e j, edge_twice)
        | no j ↦
            let z : e ≡ f.scales = omega arith in
            let a : f.scales * f.lead + closest m (2 ^ f.scales) ≤ top_code f = subst (λ (x : ℕ). x * f.lead + closest m (2 ^ x) ≤ top_code f) z h in
            in_last m (subst (λ (x : ℕ). m < bound f * 2 ^ x) z b) (omega arith)
      ]

  pub out_edge : (m e : ℕ) → e ≤ f.scales → m < bound f * 2 ^ e → top_code f < e * f.lead + closest m (2 ^ e) → edge f ≤ m
  out_edge m e l b h =
      let n : closest m (2 ^ e) ≤ bound f = few f k lay m e b in
      let j : f.scales ≤ e = at_last f k lay (closest m (2 ^ e)) e n h in
      let z : e ≡ f.scales = omega arith in
      let a : top_code f < f.scales * f.lead + closest m (2 ^ f.scales) = subst (λ (x : ℕ). top_code f < x * f.lead + closest m (2 ^ x)) z h in
      let c : closest m (2 ^ f.scales) ≤ bound f = subst (λ (x : ℕ). closest m (2 ^ x) ≤ bound f) z n in
      out_last m (subst (λ (x : ℕ). m < bound f * 2 ^ x) z b) (omega (arith, f.three))
