-- What a ledger means, and what its calls leave: on one side what the account there says, and the other side as it was.
use Rattle.std.specs.Prelude.{◌≡◌, ℕ, Result}
use Rattle.refusals.specs.declared.Refusal.{Refusal}
use Rattle.kinds.specs.declared.kind.Kind as kind
use Rattle.accounts.specs.Meaning.{Meaning, Leaves, entry_answer}
use Rattle.accounts.specs.declared.account.Account.{Ghosts}
use Rattle.books.specs.Both.{Both, at}
use Rattle.books.specs.declared.ledger.Ledger.{Ledger}
use Rattle.books.specs.declared.visit.Side.{Side}
use Rattle.books.specs.declared.visit.Side.TheVariants.{Left, Right}

module _ {K L R S T : Type 0} (l : Ghosts L K S) (r : Ghosts R K T) where
  abbrev pub both_of : Ledger K L R → Both Meaning
  both_of x = record { left = l.meaning x.left; right = r.meaning x.right }

  pub record LedgerOpens (left : S) (right : T) (x : Ledger K L R) : Type 0 where
    pub left_opens : l.opens left x.left
    pub right_opens : r.opens right x.right

  abbrev pub EntryLeaves : Side → ℕ → Ledger K L R → Ledger K L R → Result (Unit {0}) Refusal → Type 0
  EntryLeaves Left p x y a = Leaves (l.enters x.left p) x.left y.left a × (y.right ≡ x.right)
  EntryLeaves Right p x y a = Leaves (r.enters x.right p) x.right y.right a × (y.left ≡ x.left)

  abbrev pub ReadLeaves : Side → Ledger K L R → Ledger K L R → Type 0
  ReadLeaves Left x y = l.reads x.left y.left × (y.right ≡ x.right)
  ReadLeaves Right x y = r.reads x.right y.right × (y.left ≡ x.left)

module _ {K L R S T : Type 0} (k : kind.Ghosts K) (l : Ghosts L K S) (r : Ghosts R K T) where
  -- what a side answers that is asked about the pattern p
  abbrev pub side_answer : Side → ℕ → Ledger K L R → Result (Unit {0}) Refusal
  side_answer s p x = entry_answer k p (at s (both_of l r x))

  -- the side was asked about the pattern p, and where it granted that, q entered
  abbrev pub Asked : Side → ℕ → ℕ → Ledger K L R → Ledger K L R → Type 0
  Asked s p q x y = EntryLeaves l r s q x y (side_answer s p x)
