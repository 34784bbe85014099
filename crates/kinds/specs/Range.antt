-- The pattern of the number nearest to a magnitude, if that is in range.
use Rattle.std.specs.Prelude.{ℕ, cond, Some, None, Option, nat_lt}
use Rattle.numbers.specs.Format.{Format}
use Rattle.numbers.specs.Nearest.{edge, nearest_ℕ}
use Rattle.numbers.specs.Binary.{code}

abbrev pub code_in_range : Format → ℕ → Option ℕ
code_in_range f m = cond (nat_lt m (edge f)) (Some (code f (nearest_ℕ f m))) None
