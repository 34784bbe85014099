-- What the exported calls answer, in words of 64 bits.
use Rattle.std.specs.Prelude.{ℕ, ◌-◌, cond, ◌&&◌, List, map, Ok, Err, Result}
use Rattle.refusals.specs.Told.{told}
use Rattle.refusals.specs.declared.Refusal.{Refusal}
use Rattle.numbers.specs.Coding.{Coding}
use Rattle.kinds.specs.Answer.{answered}
use Rattle.kinds.specs.Coded.{coded}
use Rattle.kinds.specs.declared.kind.Kind.{Ghosts}
use Rattle.accounts.specs.Entries.{sum_of, accepted}
use Rattle.accounts.specs.declared.readings.Entry.TheVariants.{Post}

-- a reading in one word: its number, or all ones less the number of its refusal, which is no number of 32 or 64 bits
abbrev pub marked : Result ℕ Refusal → ℕ
marked (Ok p) = p
marked (Err why) = 18446744073709551615 - (told why).number

module _ {K : Type 0} (k : Ghosts K) where
  -- the adder's two answers, and two zeros where a pattern is no number
  abbrev pub sums : ℕ → ℕ → ℕ × ℕ
  sums a b = cond (k.number a && k.number b) (k.adder a b) (0, 0)

  -- what a fresh account of this limit reads after these posts
  abbrev pub reads : ℕ → List ℕ → ℕ
  reads most ps = marked (answered (k.outcome (sum_of (accepted k most (map Post ps)))))

-- the same of a coding
abbrev pub sums_by : Coding → ℕ → ℕ → ℕ × ℕ
sums_by c = sums (coded {K = Unit {0}} c)

abbrev pub reads_by : Coding → ℕ → List ℕ → ℕ
reads_by c = reads (coded {K = Unit {0}} c)
