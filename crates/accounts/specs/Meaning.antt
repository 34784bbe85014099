-- What an account means, and what a call answers and leaves, once for every kind.
use Rattle.std.specs.Prelude.{◌≡◌, ℕ, ◌+◌, cond, ℤ, pos, ◌+ℤ◌, neg_ℤ, is_ok, Ok, Err, Result, nat_lt}
use Rattle.refusals.specs.declared.Refusal.{Refusal}
use Rattle.refusals.specs.declared.Refusal.TheVariants.{NotANumber, Full}
use Rattle.kinds.specs.declared.kind.Kind.{Ghosts}
use Rattle.kinds.specs.Answer.{answered}

pub record Meaning : Type 0 where
  pub total : ℤ
  pub entries : ℕ
  pub limit : ℕ

abbrev pub fresh : ℕ → Meaning
fresh most = record { total = pos 0; entries = 0; limit = most }

-- one more entry, of worth v
abbrev pub with_entry : ℤ → Meaning → Meaning
with_entry v m = record { total = m.total +ℤ v; entries = m.entries + 1; limit = m.limit }

module _ {K : Type 0} (k : Ghosts K) where
  -- the two questions of an entry: is it a number, are so many entries below so large a limit
  abbrev pub questions : ℕ → ℕ → ℕ → Result (Unit {0}) Refusal
  questions p entries limit = cond (k.number p) (cond (nat_lt entries limit) (Ok tt) (Err Full)) (Err NotANumber)

  -- an entry is asked: is it a number, are the entries below the limit
  abbrev pub entry_answer : ℕ → Meaning → Result (Unit {0}) Refusal
  entry_answer p m = questions p m.entries m.limit

  -- a granted call has one entry more, a refused one changes nothing
  abbrev pub after_post : ℕ → Meaning → Meaning
  after_post p m = cond (is_ok (entry_answer p m)) (with_entry (k.worth p) m) m

  abbrev pub after_withdraw : ℕ → Meaning → Meaning
  after_withdraw p m = cond (is_ok (entry_answer p m)) (with_entry (neg_ℤ (k.worth p)) m) m

  abbrev pub read_answer : Meaning → Result ℕ Refusal
  read_answer m = answered (k.outcome m.total)

-- what an entry leaves: a granted one what is said of it, a refused one everything as it was
abbrev pub Leaves : {X : Type 0} → (X → Type 0) → X → X → Result (Unit {0}) Refusal → Type 0
Leaves granted before after (Ok u) = granted after
Leaves granted before after (Err why) = after ≡ before
