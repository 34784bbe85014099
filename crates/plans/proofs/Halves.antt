-- The rule of the halving plan, and how long its text is.
use Rattle.std.proofs.Common.{◌≡◌, ℕ, zero, suc, ◌+◌, ◌*◌, ◌/◌, ◌≤◌, true, false, cond, leb, sym, refl, ap, ◌∙◌, ap₂, inl, inr, arith}
use Rattle.std.proofs.lemmas.Bool.{cases_lt}
use Rattle.plans.specs.Plan.{dot, pair, text, dots, Sized}
use Rattle.plans.specs.Halving.{halving_by, halving, HalvingRule}
use Rattle.plans.proofs.Texts.{text_length}

-- one turn
by_one : (n m : ℕ) → m ≤ 1 → halving_by n m ≡ dot
by_one zero m h = refl
by_one (suc n) m h = let b : leb m 1 ≡ true = grind arith in ap (λ x. cond x dot (pair (halving_by n ((m + 1) / 2)) (halving_by n (m / 2)))) b

by_more : (n m : ℕ) → 2 ≤ m → halving_by (suc n) m ≡ pair (halving_by n ((m + 1) / 2)) (halving_by n (m / 2))
by_more n m h = let b : leb m 1 ≡ false = grind arith in ap (λ x. cond x dot (pair (halving_by n ((m + 1) / 2)) (halving_by n (m / 2)))) b

-- more turns than enough give the same
by_any : (n k m : ℕ) → m ≤ suc n → m ≤ suc k → halving_by n m ≡ halving_by k m
by_any zero k m h g = sym (by_one k m (omega arith))
by_any (suc n) zero m h g = by_one (suc n) m (omega arith)
by_any (suc n) (suc k) m h g =
    elim (cases_lt 1 m) [
      | inr a ↦ by_one (suc n) m a ∙ sym (by_one (suc k) m a)
      | inl a ↦
          by_more n m (omega arith)
          ∙ ap₂ pair (by_any n k ((m + 1) / 2) (omega arith) (omega arith)) (by_any n k (m / 2) (omega arith) (omega arith))
          ∙ sym (by_more k m (omega arith))
    ]

dots_by : (n m : ℕ) → 1 ≤ m → m ≤ suc n → dots (halving_by n m) ≡ m
dots_by zero m h g = omega arith
dots_by (suc n) m h g =
    elim (cases_lt 1 m) [
      | inr a ↦ ap dots (by_one (suc n) m a) ∙ omega arith
      | inl a ↦
          let x = dots_by n ((m + 1) / 2) (omega arith) (omega arith) in
          let y = dots_by n (m / 2) (omega arith) (omega arith) in
          ap dots (by_more n m (omega arith)) ∙ omega arith
    ]

pub halving_rule : HalvingRule
unfolding halving
halving_rule = record {
  one = refl;
  more = λ m h.
      by_any m (suc m) m (omega arith) (omega arith) ∙ by_more m m h
      ∙ ap₂ pair (by_any m ((m + 1) / 2) ((m + 1) / 2) (omega arith) (omega arith)) (by_any m (m / 2) (m / 2) (omega arith) (omega arith));
  counted = λ m h. dots_by m m h (omega arith);
}

pub halving_length : (m : ℕ) → 1 ≤ m → Sized m (text (halving m))
halving_length m h = text_length (halving m) ∙ ap (λ n. 3 * n) (halving_rule.counted m h)
