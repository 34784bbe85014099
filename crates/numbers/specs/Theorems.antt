-- What is proved of every format and every coding; the contracts in src/ carry it.
use Rattle.std.specs.Prelude.{◌≡◌, ◌≤◌, ◌<◌, ℤ, pos, neg_ℤ, nat_abs, ◌+ℤ◌, ◌≤ℤ◌}
use Rattle.numbers.specs.Format.{Format, Holds, Nearest}
use Rattle.numbers.specs.Nearest.{nearest, edge, outcome, remainder}
use Rattle.numbers.specs.Outcome.{above, below, number, AtMost}
use Rattle.numbers.specs.Coding as coding
use Rattle.numbers.specs.Coding.{Coding, Codes, opposite, adder}
use Rattle.numbers.specs.Lawful.{Lawful}

-- every whole number has a nearest number, and only one: the computed one
pub record OneNearest (f : Format) : Type 0 where
  pub computed : (v : ℤ) → Nearest f v (nearest f v)
  pub only : (v s : ℤ) → Nearest f v s → s ≡ nearest f v

-- a sum's outcome is its nearest number, but from the edge on; nothing turns the order round
pub record OrderedOutcomes (f : Format) : Type 0 where
  pub inside : (v : ℤ) → nat_abs v < edge f → outcome f v ≡ number (nearest f v)
  pub over : (v : ℤ) → pos (edge f) ≤ℤ v → outcome f v ≡ above
  pub under : (v : ℤ) → pos (edge f) ≤ℤ neg_ℤ v → outcome f v ≡ below
  pub nearest_keeps : (v w : ℤ) → v ≤ℤ w → nearest f v ≤ℤ nearest f w
  pub keeps : (v w : ℤ) → v ≤ℤ w → AtMost (λ z. z) (outcome f v) (outcome f w)

-- what the nearest number leaves of the sum of two numbers is a number itself, no greater than either, and nothing is lost
pub record HeldRemainder (f : Format) : Type 0 where
  pub held : (a b : ℤ) → Holds f a → Holds f b → Holds f (remainder f a b)
  pub left : (a b : ℤ) → Holds f b → nat_abs (remainder f a b) ≤ nat_abs a
  pub right : (a b : ℤ) → Holds f a → nat_abs (remainder f a b) ≤ nat_abs b
  pub exact : (a b : ℤ) → nearest f (a +ℤ b) +ℤ remainder f a b ≡ a +ℤ b

-- a coding that owes nothing more meets every law of a kind
abbrev pub LawfulCoding : Coding → Type 0
LawfulCoding k = Codes k → Lawful k.number k.worth (opposite k) (adder k) (coding.outcome k)
