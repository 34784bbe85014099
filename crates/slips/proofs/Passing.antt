-- What a settle keeps of the slots, whatever number of passes it makes.
use Rattle.std.proofs.Common.{◌≡◌, ℕ, zero, suc, ◌+◌, ◌≤◌, List, ◌++◌, length, replicate, Ok, Err, Result, sym, refl, ap, ◌∙◌, subst, append-nil, arith, drop_of_length-le}
use Rattle.refusals.specs.declared.Refusal.{Refusal}
use Rattle.numbers.specs.Lawful.{Lawful}
use Rattle.kinds.specs.declared.kind.Kind.{Ghosts}
use Rattle.plans.specs.Plan.{Plan, dots}
use Rattle.slots.specs.Pass.{Numbers, exact_sum, in_use, Cleared}
use Rattle.slots.proofs.Keeps.{keeps}
use Rattle.settle.specs.Settle.{passes, SettleAnswer}
use Rattle.settle.specs.declared.settled.Settled.{Settled}

-- a column of as many words as there are slots is all zeros
pub all_cleared : (m n : ℕ) (before after : List ℕ) → m ≡ n → length before ≡ n → Cleared m before after → after ≡ replicate n 0
all_cleared m n before after same room e =
    e ∙ ap (λ t. replicate m 0 ++ t) (drop_of_length-le before (omega arith)) ∙ append-nil (replicate m 0) ∙ ap (λ i. replicate i 0) same

pub record Kept {K : Type 0} (k : Ghosts K) (before after : List ℕ) : Type 0 where
  pub sum : exact_sum k after ≡ exact_sum k before
  pub numbers : Numbers k after
  pub size : length after ≡ length before
  pub fewer : in_use k after ≤ in_use k before

module _ {K : Type 0} (k : Ghosts K) (l : Lawful k.number k.worth k.opposite k.adder k.outcome) where
  passes_keep : (p : Plan) (n : ℕ) (xs : List ℕ) → dots p + 1 ≡ length xs → Numbers k xs → Kept k xs (passes k p n xs)
  passes_keep p zero xs h a = record { sum = refl; numbers = a; size = refl; fewer = omega arith }
  passes_keep p (suc n) xs h a =
      let s = passes_keep p n xs h a in
      let t = keeps k l p (passes k p n xs) (h ∙ sym s.size) s.numbers in
      record { sum = t.sum ∙ s.sum; numbers = t.numbers; size = t.size ∙ s.size; fewer = omega arith }

  -- granted or refused
  pub settle_keeps : (plan : List ℕ) (budget : ℕ) (before column after column' : List ℕ) (r : Result Settled Refusal) → Numbers k before
      → SettleAnswer k plan budget before column after column' r → Kept k before after
  settle_keeps plan budget before column after column' (Ok r) a answer =
      let m = answer.1 in subst (Kept k before) (sym m.left) (passes_keep m.by r.passes before m.counted a)
  settle_keeps plan budget before column after column' (Err e) a answer =
      rw (answer.1) (record { sum = refl; numbers = a; size = refl; fewer = omega arith })
