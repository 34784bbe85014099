-- What is asked of the plan comes last.
use Rattle.std.proofs.Common.{ℕ, ◌-◌, ◌≤◌, List, length, Ok, Err, Result}
use Rattle.refusals.specs.declared.Refusal.{Refusal}
use Rattle.kinds.specs.declared.kind.Kind.{Ghosts}
use Rattle.plans.specs.Plan.{PlanAnswer}
use Rattle.slots.specs.Pass.{Numbers}
use Rattle.slots.specs.Asked.{RightCount, AskedAnswer, no_plan}

pub plan_last : {K : Type 0} (k : Ghosts K) (s : List ℕ) (c : ℕ) (p : List ℕ) (r : Result (Unit {0}) Refusal)
    → RightCount s → Numbers k s → length s ≤ c → PlanAnswer (length s - 1) p r → AskedAnswer k s c p r
plan_last k s c p (Ok u) count numbers room plan = record { count = count; numbers = numbers; room = room; plan = plan }
plan_last k s c p (Err e) count numbers room plan = no_plan e count numbers room plan
