-- An accepted test names the outcome of the exact sum, from the laws of a kind alone.
use Rattle.std.proofs.Common.{◌≡◌, ℕ, ◌≤◌, List, take, drop, ℤ, pos, ◌+ℤ◌, ◌-ℤ◌, nat_abs, ◌≤ℤ◌, Result, sym, refl, ap, ◌∙◌, subst, arith, take-append-drop}
use Rattle.std.proofs.lemmas.Int.{ints}
use Rattle.refusals.specs.declared.Refusal.{Refusal}
use Rattle.numbers.specs.Lawful.{Lawful}
use Rattle.numbers.specs.Outcome.{Outcome, below, above, number, AtMost}
use Rattle.kinds.specs.declared.kind.Kind.{Ghosts}
use Rattle.kinds.specs.Answer.{answered}
use Rattle.slots.specs.Pass.{exact_sum}
use Rattle.slots.proofs.Keeps.{exact_sum_append}
use Rattle.settle.specs.Test.{Names, Rejects, TestTells, sum_answer}
use Rattle.settle.proofs.Wide.{reach_bound, reach_one}

-- two outcomes that are answered alike are the same
pub one_outcome : (a b : Outcome ℕ) → answered a ≡ answered b → a ≡ b
one_outcome below below e = refl
one_outcome below above e = absurd (let z : ◌≡◌ {A = ℕ} 0 1 = cc in omega arith)
one_outcome below (number q) e = absurd (let z : ◌≡◌ {A = ℕ} 0 1 = cc in omega arith)
one_outcome above below e = absurd (let z : ◌≡◌ {A = ℕ} 0 1 = cc in omega arith)
one_outcome above above e = refl
one_outcome above (number q) e = absurd (let z : ◌≡◌ {A = ℕ} 0 1 = cc in omega arith)
one_outcome (number p) below e = absurd (let z : ◌≡◌ {A = ℕ} 0 1 = cc in omega arith)
one_outcome (number p) above e = absurd (let z : ◌≡◌ {A = ℕ} 0 1 = cc in omega arith)
one_outcome (number p) (number q) e = cc

module _ {K : Type 0} (k : Ghosts K) (l : Lawful k.number k.worth k.opposite k.adder k.outcome) where
  -- a sum between two that have one outcome has it too
  squeezed : (lo v hi : ℤ) → lo ≤ℤ v → v ≤ℤ hi → k.outcome lo ≡ k.outcome hi → k.outcome v ≡ k.outcome lo
  squeezed lo v hi a b e =
      go (k.outcome lo) (k.outcome v) refl refl (l.order lo v a) (subst (λ (o : Outcome ℕ). AtMost k.worth (k.outcome v) o) (sym e) (l.order v hi b))
    where
      go : (x y : Outcome ℕ) → k.outcome lo ≡ x → k.outcome v ≡ y → AtMost k.worth x y → AtMost k.worth y x → y ≡ x
      go below below i j m n = refl
      go below above i j m n = absurd n
      go below (number q) i j m n = absurd n
      go above below i j m n = absurd m
      go above above i j m n = refl
      go above (number q) i j m n = absurd m
      go (number p) below i j m n = absurd m
      go (number p) above i j m n = absurd n
      go (number p) (number q) i j m n = ap number (l.one_pattern v lo q p j i (omega (arith, ints)))

  between_low : (s t : ℤ) (b : ℕ) → nat_abs t ≤ b → (s -ℤ pos b) ≤ℤ (s +ℤ t)
  between_low s t b h = omega (arith, ints)

  between_high : (s t : ℤ) (b : ℕ) → nat_abs t ≤ b → (s +ℤ t) ≤ℤ (s +ℤ pos b)
  between_high s t b h = omega (arith, ints)

  named : (xs : List ℕ) (o : Result ℕ Refusal) → Names k xs o → o ≡ sum_answer k xs
  named xs o n =
      let b = n.bound in
      let first = exact_sum k (take 2 xs) in
      let rest = exact_sum k (drop 2 xs) in
      let small = reach_bound k (drop 2 xs) b n.reach in
      let all : exact_sum k xs ≡ first +ℤ rest = ap (exact_sum k) (sym (take-append-drop 2 xs)) ∙ exact_sum_append k (take 2 xs) (drop 2 xs) in
      let alike = one_outcome (k.outcome (first -ℤ pos b)) (k.outcome (first +ℤ pos b)) (sym n.lower ∙ n.higher) in
      n.lower ∙ ap answered (sym (squeezed (first -ℤ pos b) (first +ℤ rest) (first +ℤ pos b) (between_low first rest b small) (between_high first rest b small) alike))
      ∙ ap (λ z. answered (k.outcome z)) (sym all)

  not_both : (xs : List ℕ) (o : Result ℕ Refusal) → Names k xs o → Rejects k xs → ⊥
  not_both xs o n (high, (low, (s, ne))) =
      let first = exact_sum k (take 2 xs) in
      let b = reach_one k (drop 2 xs) s.bound n.bound s.reach n.reach in
      ne
      ((s.higher ∙ ap (λ m. answered (k.outcome (first +ℤ pos m))) b ∙ sym n.higher)
      ∙ sym (s.lower ∙ ap (λ m. answered (k.outcome (first -ℤ pos m))) b ∙ sym n.lower))

  pub tells : TestTells k
  tells = record { names = named; decided = not_both }
