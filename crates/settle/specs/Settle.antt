-- What a settle answers, and what it leaves in the slots.
use Rattle.std.specs.Prelude.{◌≡◌, ℕ, zero, suc, ◌+◌, ◌<◌, ◌≤◌, List, length, Ok, Err, Result}
use Rattle.refusals.specs.declared.Refusal.{Refusal}
use Rattle.numbers.specs.Lawful.{NoneNearer}
use Rattle.kinds.specs.declared.kind.Kind.{Ghosts}
use Rattle.plans.specs.Plan.{Plan, text, dots}
use Rattle.slots.specs.Pass.{passed, exact_sum, Cleared}
use Rattle.slots.specs.Asked.{Granted, Refused}
use Rattle.settle.specs.Test.{sum_answer, Names, Rejects}
use Rattle.settle.specs.declared.settled.Settled.{Settled}
use Rattle.settle.specs.declared.settled.Teller.{Teller}
use Rattle.settle.specs.declared.settled.Teller.TheVariants.{Test, Register}

module _ {K : Type 0} (k : Ghosts K) where
  -- the slots after n passes
  abbrev pub passes : Plan → ℕ → List ℕ → List ℕ
  passes p zero xs = xs
  passes p (suc n) xs = passed k p (passes p n xs)

  -- the test accepted, or the budget was used and it did not
  abbrev pub Ended : ℕ → List ℕ → Result ℕ Refusal → ℕ → Teller → Type 0
  Ended budget after o n Test = Names k after o
  Ended budget after o n Register = (n ≡ budget) × Rejects k after

  pub record SettleMeans (plan : List ℕ) (budget : ℕ) (before after : List ℕ) (r : Settled) : Type 0 where
    pub by : Plan
    pub written : text by ≡ plan
    pub counted : dots by + 1 ≡ length before
    -- the outcome is that of the exact sum; where it is a number, none lies nearer
    pub outcome : r.outcome ≡ sum_answer k before
    pub nearest : (p : ℕ) → r.outcome ≡ Ok p → NoneNearer k.number k.worth (exact_sum k before) p
    -- so many passes were made, and before each the test did not accept
    pub most : r.passes ≤ budget
    pub left : after ≡ passes by r.passes before
    pub earlier : (i : ℕ) → i < r.passes → Rejects k (passes by i before)
    pub ended : Ended budget after r.outcome r.passes r.by

  abbrev pub SettleAnswer : List ℕ → ℕ → List ℕ → List ℕ → List ℕ → List ℕ → Result Settled Refusal → Type 0
  SettleAnswer plan budget slots column slots' column' (Ok r) =
      Granted k slots (length column) plan × SettleMeans plan budget slots slots' r × Cleared (length slots) column column'
  SettleAnswer plan budget slots column slots' column' (Err e) = Refused k slots (length column) plan e × (slots' ≡ slots) × (column' ≡ column)
