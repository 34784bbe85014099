-- When a ledger and its blade agree with a logbook.
use Rattle.std.specs.Prelude.{◌≡◌, ℕ, Some, None, Option}
use Rattle.accounts.specs.Entries.{meant}
use Rattle.accounts.specs.Meaning.{Meaning}
use Rattle.accounts.specs.declared.account.Account.{Ghosts}
use Rattle.books.specs.Both.{Both, at}
use Rattle.books.specs.Meant.{both_of}
use Rattle.books.specs.Logbook.{Logbook}
use Rattle.books.specs.declared.blade.Blade.{Blade}
use Rattle.books.specs.declared.blade.Blade.TheVariants.{Empty, Loaded}
use Rattle.books.specs.declared.ledger.Ledger.{Ledger}
use Rattle.books.specs.declared.visit.Side.{Side}

abbrev pub load_of : Blade → Option ℕ
load_of (Empty e) = None
load_of (Loaded b) = Some b.pattern

-- each side means what its list of accepted entries comes to, and the blade carries the load
pub record Agreeing (m : Both Meaning) (x : Option ℕ) (b : Logbook) : Type 0 where
  pub sides : (s : Side) → at s m ≡ meant (at s b.limits) (at s b.lists)
  pub load : x ≡ b.load

module _ {K L R S T : Type 0} (l : Ghosts L K S) (r : Ghosts R K T) where
  abbrev pub Agrees : Ledger K L R → Blade → Logbook → Type 0
  Agrees x blade b = Agreeing (both_of l r x) (load_of blade) b
