-- What a sum comes to: a number, or that it lies above or below every number's reach.
use Rattle.std.specs.Prelude.{ℤ, ◌≤ℤ◌}

-- an outcome of a sum; X is what tells a number: its worth, or its pattern
pub data Outcome (X : Type 0) : Type 0 where
  below above : Outcome X
  number : X → Outcome X

abbrev pub told_by : {X Y : Type 0} → (X → Y) → Outcome X → Outcome Y
told_by f below = below
told_by f above = above
told_by f (number x) = number (f x)

-- the order of outcomes: `below` under every number, `above` over every number
abbrev pub AtMost : {X : Type 0} → (X → ℤ) → Outcome X → Outcome X → Type 0
AtMost worth below y = Unit {0}
AtMost worth above below = ⊥
AtMost worth above above = Unit {0}
AtMost worth above (number q) = ⊥
AtMost worth (number p) below = ⊥
AtMost worth (number p) above = Unit {0}
AtMost worth (number p) (number q) = worth p ≤ℤ worth q
