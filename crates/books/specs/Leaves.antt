-- What a visit leaves in the accounts: what the call leaves that it asks for, and every word as it was where the blade says no.
use Rattle.std.specs.Prelude.{◌≡◌, ℕ, Some, None, Option}
use Rattle.kinds.specs.declared.kind.Kind as kind
use Rattle.accounts.specs.declared.account.Account.{Ghosts}
use Rattle.books.specs.Meant.{Asked, ReadLeaves}
use Rattle.books.specs.declared.ledger.Ledger.{Ledger}
use Rattle.books.specs.declared.visit.Side.{Side}
use Rattle.books.specs.declared.visit.Visit.{Visit}
use Rattle.books.specs.declared.visit.Visit.TheVariants.{Post, Withdraw, Take, Put, WriteOff, Read}

module _ {K L R S T : Type 0} (k : kind.Ghosts K) (l : Ghosts L K S) (r : Ghosts R K T) where
  abbrev pub TakeLeaves : Side → ℕ → Option ℕ → Ledger K L R → Ledger K L R → Type 0
  TakeLeaves s p None x y = Asked k l r s p (k.opposite p) x y
  TakeLeaves s p (Some q) x y = y ≡ x

  abbrev pub PutLeaves : Side → Option ℕ → Ledger K L R → Ledger K L R → Type 0
  PutLeaves s None x y = y ≡ x
  PutLeaves s (Some p) x y = Asked k l r s p p x y

  abbrev pub VisitLeaves : Visit → Option ℕ → Ledger K L R → Ledger K L R → Type 0
  VisitLeaves (Post s p) load x y = Asked k l r s p p x y
  VisitLeaves (Withdraw s p) load x y = Asked k l r s p (k.opposite p) x y
  VisitLeaves (Take s p) load x y = TakeLeaves s p load x y
  VisitLeaves (Put s) load x y = PutLeaves s load x y
  VisitLeaves WriteOff load x y = y ≡ x
  VisitLeaves (Read s) load x y = ReadLeaves l r s x y
