-- What slips mean, and what a call leaves in them.
use Rattle.std.specs.Prelude.{◌≡◌, ℕ, ◌+◌, ◌<◌, ◌≤◌, List, length, replicate, pos, ◌≢◌, slice_index, slice_set}
use Rattle.kinds.specs.declared.kind.Kind.{Ghosts}
use Rattle.accounts.specs.declared.account.Account as account
use Rattle.plans.specs.Plan.{text}
use Rattle.plans.specs.Halving.{halving}
use Rattle.slots.specs.Pass.{exact_sum}
use Rattle.settle.specs.Settle.{SettleMeans}
use Rattle.settle.specs.declared.settled.Settled.{Settled}
use Rattle.accounts.specs.Meaning.{Meaning}
use Rattle.slips.specs.declared.slips.Slips.{Slips}

module _ {K : Type 0} (k : Ghosts K) where
  -- all zeros, and no entry
  pub record Blank (s : Slips K k) : Type 0 where
    pub slots : s.slots ≡ replicate 64 0
    pub column : s.column ≡ replicate 64 0
    pub count : s.count ≡ 0

  -- the total is the exact sum of the slots
  abbrev pub slips_meaning : Slips K k → Meaning
  slips_meaning s = record { total = exact_sum k s.slots; entries = s.count; limit = 63 }

  -- slot i is the highest-numbered one with a worth of 0, slot 0 excepted
  pub record Free (slots : List ℕ) (i : ℕ) : Type 0 where
    pub above : 1 ≤ i
    pub within : i < length slots
    pub zero : k.worth (slice_index slots i) ≡ pos 0
    pub highest : (j : ℕ) → i < j → j < length slots → k.worth (slice_index slots j) ≢ pos 0

  -- the number p went into the free slot, and every other slot is as it was
  pub record Filled (before : List ℕ) (p : ℕ) (after : List ℕ) : Type 0 where
    pub slot : ℕ
    pub free : Free before slot
    pub put : after ≡ slice_set before slot p

  -- one more entry, which is the number p
  pub record Lodged (before : Slips K k) (p : ℕ) (after : Slips K k) : Type 0 where
    pub slots : Filled before.slots p after.slots
    pub column : after.column ≡ before.column
    pub count : after.count ≡ before.count + 1

  -- a settle by the plan and within the budget left the slots, and zeros in the column
  pub record SettledBy (plan : List ℕ) (budget : ℕ) (before after : Slips K k) : Type 0 where
    pub settled : Settled
    pub slots : SettleMeans k plan budget before.slots after.slots settled
    pub column : after.column ≡ replicate 64 0
    pub count : after.count ≡ before.count

  -- a reading settles by the halving plan of 63 dots, within 8 passes
  abbrev pub ReadLeaves : Slips K k → Slips K k → Type 0
  ReadLeaves before after = SettledBy (text (halving 63)) 8 before after

  -- slips as an account
  abbrev pub slips : account.Ghosts (Slips K k) K (Unit {0})
  slips = record {
    meaning = slips_meaning;
    agreed = λ _. 63;
    opens = λ _ s. Blank s;
    enters = Lodged;
    reads = ReadLeaves;
  }
