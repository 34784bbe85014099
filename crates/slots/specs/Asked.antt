-- What is asked before a pass, and what a pass answers.
use Rattle.std.specs.Prelude.{◌≡◌, ℕ, ◌-◌, ◌<◌, ◌≤◌, T, List, length, take, Ok, Err, Result, slice_index}
use Rattle.refusals.specs.declared.Refusal.{Refusal}
use Rattle.refusals.specs.declared.Refusal.TheVariants.{WrongCount, SlotNotANumber, ColumnTooShort}
use Rattle.kinds.specs.declared.kind.Kind.{Ghosts}
use Rattle.plans.specs.Plan.{IsPlan, NoPlan}
use Rattle.slots.specs.Pass.{Passed, Numbers, Cleared}

-- 2 to 4096 slots
abbrev pub RightCount : List ℕ → Type 0
RightCount s = (2 ≤ length s) × (length s ≤ 4096)

module _ {K : Type 0} (k : Ghosts K) where
  -- i is the place of the first that is no number
  abbrev pub FirstOther : List ℕ → ℕ → Type 0
  FirstOther s i = (i < length s) × Numbers k (take i s) × (T (k.number (slice_index s i)) → ⊥)

  -- whether all are numbers
  abbrev pub NumbersAnswer : List ℕ → Result (Unit {0}) Refusal → Type 0
  NumbersAnswer s (Ok u) = Numbers k s
  NumbersAnswer s (Err e) = (i : ℕ) × FirstOther s i × (e ≡ SlotNotANumber i)

  -- slots, a column of c words and the text of a plan with which a pass is granted
  pub record Granted (s : List ℕ) (c : ℕ) (p : List ℕ) : Type 0 where
    pub count : RightCount s
    pub numbers : Numbers k s
    pub room : length s ≤ c
    pub plan : IsPlan (length s - 1) p

  -- the first question that is answered no
  pub data Refused (s : List ℕ) (c : ℕ) (p : List ℕ) : Refusal → Type 0 where
    wrong_count : (RightCount s → ⊥) → Refused s c p WrongCount
    no_number : (i : ℕ) → RightCount s → FirstOther s i → Refused s c p (SlotNotANumber i)
    short_column : RightCount s → Numbers k s → c < length s → Refused s c p ColumnTooShort
    no_plan : (e : Refusal) → RightCount s → Numbers k s → length s ≤ c → NoPlan (length s - 1) p e → Refused s c p e

  abbrev pub AskedAnswer : List ℕ → ℕ → List ℕ → Result (Unit {0}) Refusal → Type 0
  AskedAnswer s c p (Ok u) = Granted s c p
  AskedAnswer s c p (Err e) = Refused s c p e

  -- a granted pass does what the rule says; a refused one leaves every word
  abbrev pub PassAnswer : List ℕ → List ℕ → List ℕ → List ℕ → List ℕ → Result (Unit {0}) Refusal → Type 0
  PassAnswer plan slots column slots' column' (Ok u) = Granted slots (length column) plan × Passed k plan slots slots' × Cleared (length slots) column column'
  PassAnswer plan slots column slots' column' (Err e) = Refused slots (length column) plan e × (slots' ≡ slots) × (column' ≡ column)
