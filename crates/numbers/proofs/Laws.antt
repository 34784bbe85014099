-- Every coding is lawful: the laws of a kind, from the few facts that its coding owes.
use mathlib.Core.Path.{◌≡◌, refl, sym, ap, ap₂, ◌∙◌, subst, subst₂}
use Prim.Native.Nat.{ℕ, ◌≤◌}
use native.Mathlib.Nat.{lt_of_le_of_lt, le_trans, le_of_eq}
use native.Mathlib.Omega.{arith}
use lib.Dec.{T}
use lib.IntN.{ℤ, pos, neg_ℤ, nat_abs, ◌+ℤ◌}
use lib.Signed.{◌≤ℤ◌}
use Rattle.numbers.specs.Format.{Format, Held, Holds, far}
use Rattle.numbers.specs.Nearest as format
use Rattle.numbers.specs.Nearest.{nearest, remainder}
use Rattle.numbers.specs.Outcome.{Outcome, below, above, number, told_by, AtMost}
use Rattle.numbers.specs.Coding.{Coding, Codes, total, opposite, adder, outcome}
use Rattle.numbers.specs.Lawful.{NoneNearer, Lawful}
use Rattle.numbers.proofs.Scales.{held_le_top}
use Rattle.numbers.proofs.Signed.{abs_neg, held_zero, nearest_held, nearest_near}
use Rattle.numbers.proofs.Remainder.{remainder_held, remainder_le_left, remainder_le_right, adds_up}
use Rattle.numbers.proofs.Outcomes.{way, over, under, inside, outcome_mono, outcome_nearest}

module _ (k : Coding) (c : Codes k) where
  abbrev f : Format
  f = k.format

  negated : (p : ℕ) → T (k.number p) → Holds f (neg_ℤ (k.worth p))
  negated p t = subst (Held f) (sym (abs_neg (k.worth p))) (c.held p t)

  -- the pattern of the nearest number
  nearest_none : (v : ℤ) → NoneNearer k.number k.worth v (k.pattern (nearest f v))
  nearest_none v =
      record {
        found = c.made (nearest f v) (nearest_held f v);
        near = λ w t. subst (λ (z : ℤ). far z v ≤ far (k.worth w) v) (sym (c.back (nearest f v) (nearest_held f v))) (nearest_near f v (k.worth w) (c.held w t));
      }

  -- the remainder is held, so its pattern has its worth
  remainder_worth : (p q : ℕ) → T (k.number p) → T (k.number q) → k.worth (adder k p q).1 ≡ remainder f (k.worth p) (k.worth q)
  remainder_worth p q s t = c.back _ (remainder_held f (k.worth p) (k.worth q) (c.held p s) (c.held q t))

  -- a number that is read is the pattern of the nearest
  read_is : (v : ℤ) (p : ℕ) → outcome k v ≡ number p → p ≡ k.pattern (nearest f v)
  read_is v p e =
      elim (way f v) [
        | over h q ↦ let a : outcome k v ≡ above = ap (told_by k.pattern) q in let z : ◌≡◌ {A = ℕ} 0 1 = cc in absurd (omega arith)
        | under h q ↦ let a : outcome k v ≡ below = ap (told_by k.pattern) q in let z : ◌≡◌ {A = ℕ} 0 1 = cc in absurd (omega arith)
        | inside h q ↦ let a : outcome k v ≡ number (k.pattern (nearest f v)) = ap (told_by k.pattern) q in cc
      ]

  read_worth : (v : ℤ) (p : ℕ) → outcome k v ≡ number p → k.worth p ≡ nearest f v
  read_worth v p e = ap k.worth (read_is v p e) ∙ c.back (nearest f v) (nearest_held f v)

  keeps_order : (v w : ℤ) → v ≤ℤ w → AtMost k.worth (outcome k v) (outcome k w)
  keeps_order v w h = go (format.outcome f v) (format.outcome f w) refl refl (outcome_mono f v w h)
    where
      back : (x r : ℤ) → format.outcome f x ≡ number r → k.worth (k.pattern r) ≡ r
      back x r e = c.back r (outcome_nearest f x r e).held

      go : (x y : Outcome ℤ) → format.outcome f v ≡ x → format.outcome f w ≡ y
          → AtMost (λ z. z) x y → AtMost k.worth (told_by k.pattern x) (told_by k.pattern y)
      go below y a b o = tt
      go above below a b o = o
      go above above a b o = o
      go above (number s) a b o = o
      go (number r) below a b o = o
      go (number r) above a b o = o
      go (number r) (number s) a b o = subst₂ (λ (x y : ℤ). x ≤ℤ y) (sym (back v r a)) (sym (back w s b)) o

  pub lawful : Lawful k.number k.worth (opposite k) (adder k) (outcome k)
  lawful =
      record {
        zero = (subst (λ (p : ℕ). T (k.number p)) c.none (c.made (pos 0) (held_zero f)), ap k.worth (sym c.none) ∙ c.back (pos 0) (held_zero f));
        bounded_worths = λ p t. lt_of_le_of_lt (held_le_top f (c.held p t)) c.low;
        opposites = λ p t. (c.made (neg_ℤ (k.worth p)) (negated p t), c.back (neg_ℤ (k.worth p)) (negated p t));
        nearest_sum = λ p q s t. nearest_none (total k p q);
        remainder_is_number = λ p q s t. c.made _ (remainder_held f (k.worth p) (k.worth q) (c.held p s) (c.held q t));
        remainder_is_small =
            λ p q s t.
            let e = ap nat_abs (remainder_worth p q s t) in (
              le_trans (le_of_eq e) (remainder_le_left f (k.worth p) (k.worth q) (c.held q t)),
              le_trans (le_of_eq e) (remainder_le_right f (k.worth p) (k.worth q) (c.held p s)),
            );
        nothing_lost =
            λ p q s t.
            ap₂ ◌+ℤ◌ (c.back _ (nearest_held f (total k p q))) (remainder_worth p q s t) ∙ adds_up f (k.worth p) (k.worth q);
        nearest_outcome = λ v p e. subst (NoneNearer k.number k.worth v) (sym (read_is v p e)) (nearest_none v);
        one_pattern = λ v w p q d e s. read_is v p d ∙ ap k.pattern (sym (read_worth v p d) ∙ s ∙ read_worth w q e) ∙ sym (read_is w q e);
        order = keeps_order;
      }
