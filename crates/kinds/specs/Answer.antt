-- An outcome as a call answers it.
use Rattle.std.specs.Prelude.{ℕ, Ok, Err, Result}
use Rattle.numbers.specs.Outcome.{Outcome, below, above, number}
use Rattle.refusals.specs.declared.Refusal.{Refusal}
use Rattle.refusals.specs.declared.Refusal.TheVariants.{AboveRange, BelowRange}

abbrev pub answered : Outcome ℕ → Result ℕ Refusal
answered below = Err BelowRange
answered above = Err AboveRange
answered (number p) = Ok p
