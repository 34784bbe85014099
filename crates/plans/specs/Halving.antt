-- The halving plan, and the rule that it follows.
use Rattle.std.specs.Prelude.{◌≡◌, ℕ, zero, suc, ◌+◌, ◌/◌, ◌≤◌, cond, nat_le}
use Rattle.plans.specs.Plan.{Plan, dot, pair, dots}

-- m dots halved at most n times over, and a dot where that was not enough
abbrev pub halving_by : ℕ → ℕ → Plan
halving_by zero m = dot
halving_by (suc n) m = cond (nat_le m 1) dot (pair (halving_by n ((m + 1) / 2)) (halving_by n (m / 2)))

-- the halving plan of m dots: m times are always enough
unfoldable pub halving : ℕ → Plan
halving m = halving_by m m

-- a dot, or a pair whose left part has half of the dots, rounded up, and whose right part has the others
pub record HalvingRule : Type 0 where
  pub one : halving 1 ≡ dot
  pub more : (m : ℕ) → 2 ≤ m → halving m ≡ pair (halving ((m + 1) / 2)) (halving (m / 2))
  pub counted : (m : ℕ) → 1 ≤ m → dots (halving m) ≡ m
