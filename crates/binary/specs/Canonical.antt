-- A coefficient and a scale as a pattern has them.
use Rattle.std.specs.Prelude.{◌≡◌, ℕ, ◌<◌, ◌≤◌, ◌⊎◌}
use Rattle.numbers.specs.Format.{Format, bound}

-- c at the scale q is a number, and q is the smallest scale that it has
pub record Canonical (f : Format) (c q : ℕ) : Type 0 where
  pub small : c < bound f
  pub within : q ≤ f.scales
  pub needs : (q ≡ 0) ⊎ (f.lead ≤ c)
