-- The test: whether slots 0 and 1 and the gauge of the others already tell the outcome of all.
use Rattle.std.specs.Prelude.{◌≡◌, ℕ, ◌+◌, ◌^◌, ◌<◌, ◌≤◌, List, take, drop, pos, ◌+ℤ◌, ◌-ℤ◌, Some, None, Option, Result, ◌≢◌}
use Rattle.refusals.specs.declared.Refusal.{Refusal}
use Rattle.kinds.specs.declared.kind.Kind.{Ghosts}
use Rattle.kinds.specs.Answer.{answered}
use Rattle.slots.specs.Pass.{exact_sum, in_use}
use Rattle.settle.specs.Seen.{Peak}

-- c is the least for which 2 ^ c is at least z
pub record Ceiling (z c : ℕ) : Type 0 where
  pub over : z ≤ 2 ^ c
  pub least : (d : ℕ) → z ≤ 2 ^ d → c ≤ d

module _ {K : Type 0} (k : Ghosts K) where
  -- what the sum of the slots reads
  abbrev pub sum_answer : List ℕ → Result ℕ Refusal
  sum_answer xs = answered (k.outcome (exact_sum k xs))

  -- B: how far from 0 the sum of the numbers can lie, by their gauge
  pub data Reach (xs : List ℕ) : ℕ → Type 0 where
    none : in_use k xs ≡ 0 → Reach xs 0
    some : (c p : ℕ) → 0 < in_use k xs → Ceiling (in_use k xs) c → Peak k xs p → Reach xs (2 ^ (c + p))

  -- what S + R + B and S + R - B read, S and R the worths of slots 0 and 1
  pub record Spread (xs : List ℕ) (high low : Result ℕ Refusal) : Type 0 where
    pub bound : ℕ
    pub reach : Reach (drop 2 xs) bound
    pub higher : high ≡ answered (k.outcome (exact_sum k (take 2 xs) +ℤ pos bound))
    pub lower : low ≡ answered (k.outcome (exact_sum k (take 2 xs) -ℤ pos bound))

  -- the test accepts the slots, and names the outcome o
  abbrev pub Names : List ℕ → Result ℕ Refusal → Type 0
  Names xs o = Spread xs o o

  -- the test does not accept the slots
  abbrev pub Rejects : List ℕ → Type 0
  Rejects xs = (high : Result ℕ Refusal) × ((low : Result ℕ Refusal) × (Spread xs high low × (high ≢ low)))

  abbrev pub TestAnswer : List ℕ → Option (Result ℕ Refusal) → Type 0
  TestAnswer xs (Some o) = Names xs o
  TestAnswer xs None = Rejects xs

  -- whatever the test accepts is the outcome of the exact sum, and it does not both accept and reject
  pub record TestTells : Type 0 where
    pub names : (xs : List ℕ) (o : Result ℕ Refusal) → Names xs o → o ≡ sum_answer xs
    pub decided : (xs : List ℕ) (o : Result ℕ Refusal) → Names xs o → Rejects xs → ⊥
