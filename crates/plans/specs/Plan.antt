-- Plans, their texts, and what is answered of a text that should be a plan.
use Rattle.std.specs.Prelude.{◌≡◌, ℕ, ◌+◌, ◌*◌, ◌≤◌, List, ◌++◌, length, take, Ok, Err, codes, Result}
use Rattle.refusals.specs.declared.Refusal.{Refusal}
use Rattle.refusals.specs.declared.Refusal.TheVariants.{NotANumber, Full, AboveRange, BelowRange, BladeLoaded, BladeEmpty, WrongCount, SlotNotANumber, ColumnTooShort, WrongPlanLength, NotAPlan, RegisterTooLarge, BudgetTooLarge, NotAForm}

pub data Plan : Type 0 where
  dot : Plan
  pair : Plan → Plan → Plan

abbrev pub text : Plan → List ℕ
text dot = codes "."
text (pair a b) = codes "(" ++ (text a ++ (text b ++ codes ")"))

abbrev pub dots : Plan → ℕ
dots dot = 1
dots (pair a b) = dots a + dots b

-- a text is the text of one plan at most
abbrev pub OnePlan : Type 0
OnePlan = (p q : Plan) → text p ≡ text q → p ≡ q

-- s has the 3 n - 2 bytes of a plan of n dots
abbrev pub Sized : ℕ → List ℕ → Type 0
Sized n s = length s + 2 ≡ 3 * n

-- and every plan has as many
abbrev pub PlanBytes : Type 0
PlanBytes = (p : Plan) → Sized (dots p) (text p)

-- s is the text of a plan of n dots
pub record IsPlan (n : ℕ) (s : List ℕ) : Type 0 where
  pub plan : Plan
  pub written : text plan ≡ s
  pub counted : dots plan ≡ n

-- s begins the text of a plan of n dots
pub record Begins (n : ℕ) (s : List ℕ) : Type 0 where
  pub plan : Plan
  pub rest : List ℕ
  pub written : text plan ≡ s ++ rest
  pub counted : dots plan ≡ n

-- k is the length of the longest start of s that begins the text of a plan of n dots
pub record Longest (n : ℕ) (s : List ℕ) (k : ℕ) : Type 0 where
  pub within : k ≤ length s
  pub begins : Begins n (take k s)
  pub longest : (j : ℕ) → j ≤ length s → Begins n (take j s) → j ≤ k

-- why s is refused where a plan of n dots is wanted: its length is asked about first
abbrev pub NoPlan : ℕ → List ℕ → Refusal → Type 0
NoPlan n s WrongPlanLength = Sized n s → ⊥
NoPlan n s (NotAPlan k) = Sized n s × (IsPlan n s → ⊥) × Longest n s k
NoPlan n s NotANumber = ⊥
NoPlan n s Full = ⊥
NoPlan n s AboveRange = ⊥
NoPlan n s BelowRange = ⊥
NoPlan n s BladeLoaded = ⊥
NoPlan n s BladeEmpty = ⊥
NoPlan n s WrongCount = ⊥
NoPlan n s (SlotNotANumber at) = ⊥
NoPlan n s ColumnTooShort = ⊥
NoPlan n s (RegisterTooLarge at) = ⊥
NoPlan n s BudgetTooLarge = ⊥
NoPlan n s NotAForm = ⊥

abbrev pub PlanAnswer : ℕ → List ℕ → Result (Unit {0}) Refusal → Type 0
PlanAnswer n s (Ok u) = IsPlan n s
PlanAnswer n s (Err e) = NoPlan n s e
