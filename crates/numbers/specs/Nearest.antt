-- The nearest number and the outcome, computed. That they are what the relation `Nearest` says is proved on public contracts.
use Rattle.std.specs.Prelude.{Bool, true, false, cond, ℕ, zero, suc, ◌+◌, ◌*◌, ◌/◌, min, ltb, ℤ, pos, negsuc, neg_ℤ, ◌+ℤ◌, ◌-ℤ◌}
use Rattle.std.specs.Int.Signed.{le_z}
use Rattle.std.specs.Float.Ieee.Nearest.{closest}
use Rattle.numbers.specs.Format.{Format, bound, unit, top}
use Rattle.numbers.specs.Outcome.{Outcome, below, above, number}

-- the first scale from j up, with d scales left above it, at which m has a coefficient; the last one if there is none. b says whether j is one.
unfoldable pub climb : Format → ℕ → Bool → ℕ → ℕ → ℕ
climb f zero b j m = j
climb f (suc d) true j m = j
climb f (suc d) false j m = climb f d (ltb m (bound f * unit f (suc j))) (suc j) m

unfoldable pub scale_of : Format → ℕ → ℕ
unfolding climb
scale_of f m = climb f f.scales (ltb m (bound f)) 0 m

-- the nearest magnitude: m in units of its scale, rounded to a whole number of them, a tie to the even one
unfoldable pub nearest_ℕ : Format → ℕ → ℕ
unfolding scale_of
nearest_ℕ f m = let u = unit f (scale_of f m) in min (closest m u * u) (top f)

unfoldable pub nearest : Format → ℤ → ℤ
unfolding nearest_ℕ
nearest f (pos m) = pos (nearest_ℕ f m)
nearest f (negsuc m) = neg_ℤ (pos (nearest_ℕ f (suc m)))

-- from here on a sum is out of range: half a unit past the top
abbrev pub edge : Format → ℕ
edge f = top f + suc (unit f f.scales) / 2

unfoldable pub outcome : Format → ℤ → Outcome ℤ
unfolding nearest
outcome f v = cond (le_z (pos (edge f)) v) above (cond (le_z (pos (edge f)) (neg_ℤ v)) below (number (nearest f v)))

-- what the nearest number leaves of the sum of two
abbrev pub remainder : Format → ℤ → ℤ → ℤ
remainder f a b = (a +ℤ b) -ℤ nearest f (a +ℤ b)
