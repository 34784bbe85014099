-- The blade: what a take, a put and a write off answer.
use Rattle.std.specs.Prelude.{◌≡◌, ℕ, cond, Ok, Err, Result, ◌==◌, unsigned_abs}
use Rattle.refusals.specs.declared.Refusal.{Refusal}
use Rattle.kinds.specs.declared.kind.Kind.{Ghosts}
use Rattle.books.specs.declared.blade.EmptyBlade.{EmptyBlade}
use Rattle.books.specs.declared.blade.LoadedBlade.{LoadedBlade}

-- a pattern as it is answered: all zeros for a number of worth 0
abbrev pub shown : {K : Type 0} → Ghosts K → ℕ → ℕ
shown k p = cond (k.number p) (cond (unsigned_abs (k.worth p) == 0) 0 p) p

-- where the account grants it, a take answers the blade loaded with p; otherwise the empty one comes back with the account's refusal
abbrev pub TakeAnswer : ℕ → Result (Unit {0}) Refusal → Result LoadedBlade (EmptyBlade × Refusal) → Type 0
TakeAnswer p account (Ok blade) = (account ≡ Ok tt) × (blade.pattern ≡ p)
TakeAnswer p account (Err e) = account ≡ Err e.1

-- where the account grants it, a put answers the empty blade; otherwise the loaded one comes back with the account's refusal
abbrev pub PutAnswer : ℕ → Result (Unit {0}) Refusal → Result EmptyBlade (LoadedBlade × Refusal) → Type 0
PutAnswer p account (Ok blade) = account ≡ Ok tt
PutAnswer p account (Err e) = (account ≡ Err e.1) × (e.0.pattern ≡ p)
