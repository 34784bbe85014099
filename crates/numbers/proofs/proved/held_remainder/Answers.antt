use Rattle.numbers.proofs.Remainder.{remainder_held, remainder_le_left, remainder_le_right, adds_up}
use Rattle.numbers.proofs.proved.held_remainder.Goals as goal

pub returns : goal.returns
returns c = λ f. record { held = remainder_held f; left = remainder_le_left f; right = remainder_le_right f; exact = adds_up f }
