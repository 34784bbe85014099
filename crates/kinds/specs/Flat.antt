-- A format of one scale: it holds every magnitude below its bound, and clamps what lies past the top.
use Rattle.std.specs.Prelude.{◌≡◌, ℕ, ◌-◌, ◌*◌, ◌<◌, ◌≤◌, min}
use Rattle.std.proofs.Common.{sym, ap, ◌∙◌, mul-one, arith}
use Rattle.std.proofs.Math.Nat.{pow-zero}
use Rattle.std.proofs.Math.Decide.{dec_le}
use Rattle.numbers.specs.Format.{Format, Held, bound, unit, top}
use Rattle.numbers.specs.Nearest.{nearest_ℕ}
use Rattle.numbers.proofs.Rounded.{dist}
use Rattle.numbers.proofs.Scales.{held_top, held_le_top}
use Rattle.numbers.proofs.Nearest.{nearest_ℕ_held, nearest_ℕ_near, nearest_ℕ_of_held}

module _ (f : Format) (one : f.scales ≡ 0) where
  pub top_flat : top f ≡ bound f - 1
  top_flat = ap (λ (x : ℕ). (bound f - 1) * unit f x) one ∙ ap (λ (x : ℕ). (bound f - 1) * x) (pow-zero f.radix) ∙ mul-one (bound f - 1)

  pub below_all : {m : ℕ} → Held f m → m < bound f
  below_all h = omega (arith, held_le_top f h, f.three, top_flat)

  pub held_all : (m : ℕ) → m < bound f → Held f m
  held_all m l =
      record { coefficient = m; scale = 0; small = l; fits = omega arith; is = sym (ap (λ (x : ℕ). m * x) (pow-zero f.radix) ∙ mul-one m) }

  pub nearest_flat : (m : ℕ) → nearest_ℕ f m ≡ min m (top f)
  nearest_flat m =
      elim (dec_le (bound f) m) [
        | yes h ↦
            let t : nearest_ℕ f m ≤ top f = held_le_top f (nearest_ℕ_held f m) in
            let n : dist (nearest_ℕ f m) m ≤ dist (top f) m = nearest_ℕ_near f m (held_top f) in
            omega (arith, f.three, top_flat)
        | no h ↦ let n : nearest_ℕ f m ≡ m = nearest_ℕ_of_held f (held_all m (omega arith)) in omega (arith, f.three, top_flat)
      ]
