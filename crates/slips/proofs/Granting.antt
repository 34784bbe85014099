-- A settle of slots by a plan for them is not refused.
use Rattle.std.proofs.Common.{◌≡◌, ℕ, ◌+◌, ◌-◌, ◌*◌, List, length, subst, arith}
use Rattle.refusals.specs.declared.Refusal.{Refusal}
use Rattle.refusals.specs.declared.Refusal.TheVariants.{NotANumber, Full, AboveRange, BelowRange, BladeLoaded, BladeEmpty, WrongCount, SlotNotANumber, ColumnTooShort, WrongPlanLength, NotAPlan, RegisterTooLarge, BudgetTooLarge, NotAForm}
use Rattle.kinds.specs.declared.kind.Kind.{Ghosts}
use Rattle.plans.specs.Plan.{dots, IsPlan, NoPlan}
use Rattle.plans.proofs.Texts.{text_length}
use Rattle.slots.specs.Pass.{Numbers}
use Rattle.slots.specs.Asked.{Refused, wrong_count, no_number, short_column, no_plan}

-- no plan is refused
plan_taken : (n : ℕ) (s : List ℕ) (e : Refusal) → IsPlan n s → NoPlan n s e → ⊥
plan_taken n s WrongPlanLength i none = none (subst (λ m. length s + 2 ≡ 3 * m) i.counted (subst (λ t. length t + 2 ≡ 3 * dots i.plan) i.written (text_length i.plan)))
plan_taken n s (NotAPlan k) i none = none.1 i
plan_taken n s NotANumber i none = none
plan_taken n s Full i none = none
plan_taken n s AboveRange i none = none
plan_taken n s BelowRange i none = none
plan_taken n s BladeLoaded i none = none
plan_taken n s BladeEmpty i none = none
plan_taken n s WrongCount i none = none
plan_taken n s (SlotNotANumber at) i none = none
plan_taken n s ColumnTooShort i none = none
plan_taken n s (RegisterTooLarge at) i none = none
plan_taken n s BudgetTooLarge i none = none
plan_taken n s NotAForm i none = none

-- slots that are numbers and a column for them are granted every settle by a plan of the right number of dots
pub not_refused : {K : Type 0} (k : Ghosts K) (s : List ℕ) (c : ℕ) (p : List ℕ) (e : Refusal)
    → length s ≡ 64 → c ≡ 64 → Numbers k s → IsPlan 63 p → Refused k s c p e → ⊥
not_refused k s c p _ size room numbers plan (wrong_count other) = other (omega arith, omega arith)
not_refused k s c p _ size room numbers plan (no_number i count first) = first.2 (numbers i 0 first.0)
not_refused k s c p _ size room numbers plan (short_column count all short) = omega arith
not_refused k s c p _ size room numbers plan (no_plan e count all fits none) =
    let dots : 63 ≡ length s - 1 = omega arith in
    plan_taken (length s - 1) p e (subst (λ n. IsPlan n p) dots plan) none
