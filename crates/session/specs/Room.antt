-- The room that a vector has beyond its elements.
use Rattle.std.specs.Prelude.{ℕ, ◌+◌, ◌≤◌, Vec, vec_len, vec_capacity}

module _ {X Z : Type 0} where
  abbrev pub HasRoom : ℕ → Vec X Z → Type 0
  HasRoom n v = vec_len v + n ≤ vec_capacity v

  -- at most n of the room before is used up
  abbrev pub Uses : ℕ → Vec X Z → Vec X Z → Type 0
  Uses n before after = vec_len after + vec_capacity before ≤ vec_len before + n + vec_capacity after
