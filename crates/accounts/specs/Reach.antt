-- How far numbers reach, so that their sums stay within a register.
use Rattle.std.specs.Prelude.{ℕ, ◌^◌}

-- one entry: the laws of a kind say that no worth is as large
unfoldable pub reach : ℕ
reach = 2 ^ 2098

-- one register of a fleet
unfoldable pub fleet_reach : ℕ
fleet_reach = 2 ^ 2131
