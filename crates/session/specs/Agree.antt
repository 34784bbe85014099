-- When the books of a session, and the session itself, are what a book says.
use Rattle.std.specs.Prelude.{◌≡◌, ℕ, List, ◌++◌, Some, None, vec_items, Option}
use Rattle.accounts.specs.Meaning.{Meaning}
use Rattle.accounts.specs.Entries as entries
use Rattle.accounts.specs.Exact.{exact_meaning}
use Rattle.forms.specs.declared.words.KindName.{KindName}
use Rattle.session.specs.Logbook.{Logbook}
use Rattle.session.specs.Book.{Book, untold, told}
use Rattle.session.specs.Fed.{Plain, Fed}
use Rattle.session.specs.declared.books.Books.{Books}
use Rattle.session.specs.declared.session.Session.{Session}

-- an account with these accepted entries
abbrev pub meant : Logbook → Meaning
meant b = entries.meant b.left_limit b.left

-- the kind that was told and what the left account means, where one was
abbrev pub held : Option Books → Option (KindName × Meaning)
held None = None
held (Some a) = Some (a.kind, exact_meaning a.left)

abbrev pub written : Book → Option (KindName × Meaning)
written untold = None
written (told n b) = Some (n, meant b)

abbrev pub Agrees : Option Books → Book → Type 0
Agrees x b = held x ≡ written b

-- the session has heard what the book says, and then this line so far
pub record Stands (x : Session) (b : Book) (line : List ℕ) : Type 0 where
  pub books : Agrees x.books b
  pub so_far : vec_items x.line ≡ line
  pub plain : Plain line

-- the session has been fed a chunk since it stood with the book b and the line so far; `before` was written then, and `after` now
pub record Hears (x : Session) (b : Book) (line chunk before after : List ℕ) : Type 0 where
  pub written : List ℕ
  pub book : Book
  pub next : List ℕ
  pub fed : Fed b line chunk written book next
  pub wrote : after ≡ before ++ written
  pub stands : Stands x book next

-- P holds of whatever the session has heard
abbrev pub Standing : Session → (Book → List ℕ → Type 0) → Type 0
Standing x P = (b : Book) (line : List ℕ) → Stands x b line → P b line
