-- What a fleet total answers.
use Rattle.std.specs.Prelude.{◌≡◌, ℕ, ◌<◌, ◌≤◌, List, length, ℤ, pos, ◌+ℤ◌, Err, fold, Result, MatchResult, unsigned_abs}
use Rattle.std.specs.List.{AllWithin, HoldsAt}
use Rattle.refusals.specs.declared.Refusal.{Refusal}
use Rattle.refusals.specs.declared.Refusal.TheVariants.{WrongCount, RegisterTooLarge}
use Rattle.register.specs.Value.{value}
use Rattle.register.specs.declared.Register.{Register}
use Rattle.kinds.specs.declared.kind.Kind.{Ghosts}
use Rattle.kinds.specs.Answer.{answered}
use Rattle.accounts.specs.Reach.{fleet_reach}

-- the sum of the registers' values
abbrev pub fleet_sum : List Register → ℤ
fleet_sum rs = fold (λ sum r. sum +ℤ value r) (pos 0) rs

-- strictly between -2^2131 and 2^2131, or not
abbrev pub InReach : Register → Type 0
InReach r = unsigned_abs (value r) < fleet_reach

abbrev pub BeyondReach : Register → Type 0
BeyondReach r = fleet_reach ≤ unsigned_abs (value r)

abbrev pub AllInReach : List Register → Type 0
AllInReach rs = AllWithin InReach rs 0 (length rs)

abbrev pub FirstBeyond : List Register → ℕ → Type 0
FirstBeyond rs i = (i < length rs) × AllWithin InReach rs 0 i × HoldsAt BeyondReach rs i

-- whether every register is in reach, or the place of the first that is not
abbrev pub ReachAnswer : List Register → Result (Unit {0}) Refusal → Type 0
ReachAnswer rs r = MatchResult r (λ _. AllInReach rs) (λ e. (i : ℕ) × FirstBeyond rs i × (e ≡ RegisterTooLarge i))

module _ {K : Type 0} (k : Ghosts K) where
  -- are there at most 1024, is each in reach; then what their sum reads
  pub record FleetAnswer (rs : List Register) (r : Result ℕ Refusal) : Type 0 where
    pub too_many : 1024 < length rs → r ≡ Err WrongCount
    pub beyond : length rs ≤ 1024 → (i : ℕ) → FirstBeyond rs i → r ≡ Err (RegisterTooLarge i)
    pub total : length rs ≤ 1024 → AllInReach rs → r ≡ answered (k.outcome (fleet_sum rs))
