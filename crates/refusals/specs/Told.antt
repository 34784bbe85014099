-- What each refusal tells: the number of the question that was answered no, and the place, 0 where none is named.
use Rattle.std.specs.Prelude.{ℕ}
use Rattle.refusals.specs.declared.Refusal.{Refusal}
use Rattle.refusals.specs.declared.Refusal.TheVariants.{NotANumber, Full, AboveRange, BelowRange, BladeLoaded, BladeEmpty, WrongCount, SlotNotANumber, ColumnTooShort, WrongPlanLength, NotAPlan, RegisterTooLarge, BudgetTooLarge, NotAForm}

pub record Told : Type 0 where
  pub number : ℕ
  pub place : ℕ

abbrev question : ℕ → ℕ → Told
question n at = record { number = n; place = at }

abbrev pub told : Refusal → Told
told NotANumber = question 1 0
told Full = question 2 0
told AboveRange = question 3 0
told BelowRange = question 4 0
told BladeLoaded = question 5 0
told BladeEmpty = question 6 0
told WrongCount = question 7 0
told (SlotNotANumber at) = question 8 at
told ColumnTooShort = question 9 0
told WrongPlanLength = question 10 0
told (NotAPlan at) = question 11 at
told (RegisterTooLarge at) = question 12 at
told BudgetTooLarge = question 13 0
told NotAForm = question 14 0
