-- The slots in the midst of a settle.
use Rattle.std.proofs.Common.{◌≡◌, ℕ, ◌+◌, ◌<◌, ◌≤◌, List, ◌++◌, length, drop, replicate, ℤ, Ok, Result, sym, ap, ◌∙◌, subst, add-one, arith, drop_at, below_more}
use lib.ListN.{length-replicate}
use Rattle.refusals.specs.declared.Refusal.{Refusal}
use Rattle.numbers.specs.Lawful.{Lawful, NoneNearer}
use Rattle.numbers.specs.Outcome.{number}
use Rattle.kinds.specs.declared.kind.Kind.{Ghosts}
use Rattle.kinds.specs.Answer.{answered}
use Rattle.plans.specs.Plan.{Plan, text, dots}
use Rattle.plans.proofs.Texts.{one_plan}
use Rattle.slots.specs.Pass.{passed, Passed, Numbers, exact_sum, Cleared}
use Rattle.slots.proofs.Keeps.{keeps}
use Rattle.settle.specs.Test.{sum_answer, Names, Rejects}
use Rattle.settle.specs.Settle.{passes, Ended, SettleMeans}
use Rattle.settle.specs.declared.settled.Teller.{Teller}
use Rattle.settle.proofs.Tested.{one_outcome, tells}

-- n passes were made, and before each the test did not accept
pub record Settling {K : Type 0} (k : Ghosts K) (plan : List ℕ) (budget : ℕ) (before : List ℕ) (n : ℕ) (slots : List ℕ) : Type 0 where
  pub by : Plan
  pub written : text by ≡ plan
  pub counted : dots by + 1 ≡ length before
  pub numbers : Numbers k slots
  pub most : n ≤ budget
  pub left : slots ≡ passes k by n before
  pub same : length slots ≡ length before
  pub total : exact_sum k slots ≡ exact_sum k before
  pub earlier : (i : ℕ) → i < n → Rejects k (passes k by i before)

-- a column that is cleared stays so
pub cleared_again : (n : ℕ) (fresh column after : List ℕ) → Cleared n fresh column → Cleared n column after → after ≡ column
cleared_again n fresh column after e f =
    f ∙ ap (λ t. replicate n 0 ++ t) (ap (drop n) e ∙ drop_at (replicate n 0) (drop n fresh) n (length-replicate n 0)) ∙ sym e

module _ {K : Type 0} (k : Ghosts K) (l : Lawful k.number k.worth k.opposite k.adder k.outcome) where
  -- where a sum reads a number, none lies nearer
  pub nearest_read : (v : ℤ) (p : ℕ) → answered (k.outcome v) ≡ Ok p → NoneNearer k.number k.worth v p
  nearest_read v p e = l.nearest_outcome v p (one_outcome (k.outcome v) (number p) e)

  module _ (plan : List ℕ) (budget : ℕ) (before : List ℕ) where
    abbrev S : ℕ → List ℕ → Type 0
    S = Settling k plan budget before

    pub again : (n : ℕ) (slots after : List ℕ) → S n slots → n < budget → Rejects k slots → Passed k plan slots after → S (n + 1) after
    again n slots after s h r p =
        let one : p.by ≡ s.by = one_plan p.by s.by (p.written ∙ sym s.written) in
        let made : after ≡ passed k s.by slots = p.made ∙ ap (λ q. passed k q slots) one in
        let kept = keeps k l s.by slots (omega (arith, s.counted, s.same)) s.numbers in
        record {
          by = s.by;
          written = s.written;
          counted = s.counted;
          numbers = subst (Numbers k) (sym made) kept.numbers;
          most = omega arith;
          left = made ∙ ap (passed k s.by) s.left ∙ ap (λ m. passes k s.by m before) (sym (add-one n));
          same = ap length made ∙ kept.size ∙ s.same;
          total = ap (exact_sum k) made ∙ kept.sum ∙ s.total;
          earlier = below_more (λ i. Rejects k (passes k s.by i before)) n s.earlier (subst (Rejects k) s.left r);
        }

    -- what the settle means that ends here
    pub ends_here : {n : ℕ} {slots : List ℕ} {o : Result ℕ Refusal} {by : Teller} → S n slots → o ≡ sum_answer k before → Ended k budget slots o n by
        → SettleMeans k plan budget before slots (record { outcome = o; passes = n; by = by })
    ends_here {o = o} s is e = record {
      by = s.by;
      written = s.written;
      counted = s.counted;
      outcome = is;
      nearest = λ p f. nearest_read (exact_sum k before) p (sym is ∙ f);
      most = s.most;
      left = s.left;
      earlier = s.earlier;
      ended = e;
    }

    pub named : (n : ℕ) (slots : List ℕ) (o : Result ℕ Refusal) → S n slots → Names k slots o → o ≡ sum_answer k before
    named n slots o s names = (tells k l).names slots o names ∙ ap (λ z. answered (k.outcome z)) s.total
