-- Outcomes: which one a sum has, that one which is a number is nearest, and that they keep order.
use mathlib.Core.Path.{◌≡◌, refl, sym, subst, subst₂}
use mathlib.Core.Bool.{Bool, true, false, cond}
use Prim.Native.Nat.{ℕ, ◌<◌}
use native.Mathlib.Omega.{arith}
use borrow.Author.Differences.{ints}
use lib.IntN.{ℤ, pos, neg_ℤ, nat_abs}
use lib.Signed.{le_z, ◌≤ℤ◌}
use Rattle.numbers.specs.Format.{Format, Nearest}
use Rattle.numbers.specs.Nearest.{edge, nearest, outcome}
use Rattle.numbers.specs.Outcome.{Outcome, above, below, number, AtMost}
use Rattle.numbers.proofs.Scales.{unit_pos}
use Rattle.numbers.proofs.Signed.{nearest_is, nearest_mono}

pub data Way (e : ℕ) (v : ℤ) (s : ℤ) (o : Outcome ℤ) : Type 0 where
  over : pos e ≤ℤ v → o ≡ above → Way e v s o
  under : pos e ≤ℤ neg_ℤ v → o ≡ below → Way e v s o
  inside : nat_abs v < e → o ≡ number s → Way e v s o

module _ (f : Format) where
  pub edge_pos : 0 < edge f
  edge_pos = omega (arith, unit_pos f f.scales)

  pub way : (v : ℤ) → Way (edge f) v (nearest f v) (outcome f v)
  unfolding outcome
  way v = go (le_z (pos (edge f)) v) (le_z (pos (edge f)) (neg_ℤ v)) refl refl
    where
      go : (a b : Bool) → le_z (pos (edge f)) v ≡ a → le_z (pos (edge f)) (neg_ℤ v) ≡ b
          → Way (edge f) v (nearest f v) (cond a above (cond b below (number (nearest f v))))
      go true b p q = over (omega (arith, ints)) refl
      go false true p q = under (omega (arith, ints)) refl
      go false false p q = inside (omega (arith, ints)) refl

  pub outcome_inside : (v : ℤ) → nat_abs v < edge f → outcome f v ≡ number (nearest f v)
  outcome_inside v l =
      elim (way v) [
        | over h p ↦ absurd (omega (arith, ints))
        | under h p ↦ absurd (omega (arith, ints))
        | inside h p ↦ p
      ]

  pub outcome_over : (v : ℤ) → pos (edge f) ≤ℤ v → outcome f v ≡ above
  outcome_over v l =
      elim (way v) [
        | over h p ↦ p
        | under h p ↦ absurd (omega (arith, ints, edge_pos))
        | inside h p ↦ absurd (omega (arith, ints))
      ]

  pub outcome_under : (v : ℤ) → pos (edge f) ≤ℤ neg_ℤ v → outcome f v ≡ below
  outcome_under v l =
      elim (way v) [
        | over h p ↦ absurd (omega (arith, ints, edge_pos))
        | under h p ↦ p
        | inside h p ↦ absurd (omega (arith, ints))
      ]

  pub outcome_nearest : (v s : ℤ) → outcome f v ≡ number s → Nearest f v s
  outcome_nearest v s e =
      elim (way v) [
        | over h p ↦ let z : ◌≡◌ {A = ℕ} 0 1 = cc in absurd (omega arith)
        | under h p ↦ let z : ◌≡◌ {A = ℕ} 0 1 = cc in absurd (omega arith)
        | inside h p ↦ let i : nearest f v ≡ s = cc in subst (Nearest f v) i (nearest_is f v)
      ]

  pub outcome_mono : (v w : ℤ) → v ≤ℤ w → AtMost (λ z. z) (outcome f v) (outcome f w)
  outcome_mono v w h = go (outcome f v) (outcome f w) (way v) (way w)
    where
      go : (x y : Outcome ℤ) → Way (edge f) v (nearest f v) x → Way (edge f) w (nearest f w) y → AtMost (λ z. z) x y
      go x y (under a p) k = subst (λ (o : Outcome ℤ). AtMost (λ z. z) o y) (sym p) tt
      go x y (over a p) (over b q) = subst₂ (λ (o r : Outcome ℤ). AtMost (λ z. z) o r) (sym p) (sym q) tt
      go x y (over a p) (under b q) = absurd (omega (arith, ints, edge_pos))
      go x y (over a p) (inside b q) = absurd (omega (arith, ints))
      go x y (inside a p) (over b q) = subst₂ (λ (o r : Outcome ℤ). AtMost (λ z. z) o r) (sym p) (sym q) tt
      go x y (inside a p) (under b q) = absurd (omega (arith, ints))
      go x y (inside a p) (inside b q) = subst₂ (λ (o r : Outcome ℤ). AtMost (λ z. z) o r) (sym p) (sym q) (nearest_mono f v w h)
