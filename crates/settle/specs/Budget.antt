-- What setting a budget answers and leaves.
use Rattle.std.specs.Prelude.{◌≡◌, ℕ, ◌<◌, ◌≤◌, Ok, Err, Result}
use Rattle.refusals.specs.declared.Refusal.{Refusal}
use Rattle.refusals.specs.declared.Refusal.TheVariants.{BudgetTooLarge}
use Rattle.settle.specs.declared.budget.Settings.{Settings}

abbrev pub BudgetAnswer : ℕ → Settings → Settings → Result (Unit {0}) Refusal → Type 0
BudgetAnswer b before after (Ok u) = (b ≤ 8) × (after.budget ≡ b)
BudgetAnswer b before after (Err e) = (8 < b) × (after ≡ before) × (e ≡ BudgetTooLarge)
