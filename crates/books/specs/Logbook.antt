-- The logbook: a plain record kept by the visits alone. What a visit is answered and what it changes is told by it.
use Rattle.std.specs.Prelude.{◌≡◌, ℕ, cond, List, [], ◌∷◌, ◌++◌, length, ℤ, pos, ◌+ℤ◌, ◌-ℤ◌, neg_ℤ, is_ok, Err, Result, Some, None, Option, ok_or, fold, scan}
use Rattle.std.specs.Result.{result_map_both}
use Rattle.refusals.specs.declared.Refusal.{Refusal}
use Rattle.refusals.specs.declared.Refusal.TheVariants.{BladeLoaded, BladeEmpty}
use Rattle.kinds.specs.declared.kind.Kind.{Ghosts}
use Rattle.kinds.specs.Answer.{answered}
use Rattle.accounts.specs.Meaning.{questions}
use Rattle.accounts.specs.Entries.{sum_of}
use Rattle.books.specs.Both.{Both, at, on_side}
use Rattle.books.specs.Blade.{shown}
use Rattle.books.specs.declared.visit.Side.{Side}
use Rattle.books.specs.declared.visit.Reply.{Reply}
use Rattle.books.specs.declared.visit.Reply.TheVariants.{Done, Number, Off}
use Rattle.books.specs.declared.visit.Visit.{Visit}
use Rattle.books.specs.declared.visit.Visit.TheVariants.{Post, Withdraw, Take, Put, WriteOff, Read}

pub record Logbook : Type 0 where
  -- the worths of each side's accepted entries, and how many there may be
  pub lists : Both (List ℤ)
  pub limits : Both ℕ
  -- the pattern that the blade carries, if it carries one
  pub load : Option ℕ
  -- what was posted, withdrawn and written off so far
  pub posted : ℤ
  pub withdrawn : ℤ
  pub written_off : ℤ

-- it is told both limits first, and holds nothing
abbrev pub blank : ℕ → ℕ → Logbook
blank l r = record {
  lists = record { left = []; right = [] };
  limits = record { left = l; right = r };
  load = None;
  posted = pos 0;
  withdrawn = pos 0;
  written_off = pos 0;
}

-- one more entry, of worth w, on a side
abbrev pub entering : Side → ℤ → Logbook → Logbook
entering s w b = record {
  lists = on_side s (λ ws. ws ++ w ∷ []) b.lists;
  limits = b.limits;
  load = b.load;
  posted = b.posted;
  withdrawn = b.withdrawn;
  written_off = b.written_off;
}

abbrev pub carrying : Option ℕ → Logbook → Logbook
carrying x b = record { lists = b.lists; limits = b.limits; load = x; posted = b.posted; withdrawn = b.withdrawn; written_off = b.written_off }

-- so much more was posted, withdrawn and written off
abbrev pub summing : ℤ → ℤ → ℤ → Logbook → Logbook
summing p w o b = record {
  lists = b.lists;
  limits = b.limits;
  load = b.load;
  posted = b.posted +ℤ p;
  withdrawn = b.withdrawn +ℤ w;
  written_off = b.written_off +ℤ o;
}

-- a call answered as a visit: where it is granted, by a reply
abbrev pub replied : {X : Type 0} → (X → Reply) → Result X Refusal → Result Reply Refusal
replied f r = result_map_both f (λ why. why) r

module _ {K : Type 0} (k : Ghosts K) where
  -- an empty load has worth 0
  abbrev pub load_worth : Option ℕ → ℤ
  load_worth None = pos 0
  load_worth (Some p) = k.worth p

  -- both sums and the load are worth what was posted less what was withdrawn or written off
  abbrev pub Conserved : Logbook → Type 0
  Conserved b = sum_of b.lists.left +ℤ sum_of b.lists.right +ℤ load_worth b.load ≡ b.posted -ℤ b.withdrawn -ℤ b.written_off

  -- the questions of an entry, with a list's length for the entries
  abbrev pub accepts : Side → ℕ → Logbook → Result (Unit {0}) Refusal
  accepts s p b = questions k p (length (at s b.lists)) (at s b.limits)

  -- what a side's list reads
  abbrev pub reading : Side → Logbook → Result ℕ Refusal
  reading s b = answered (k.outcome (sum_of (at s b.lists)))

  -- take asks first whether the blade is empty, and put whether it is loaded
  abbrev pub take_asks : Side → ℕ → Logbook → Option ℕ → Result (Unit {0}) Refusal
  take_asks s p b None = accepts s p b
  take_asks s p b (Some q) = Err BladeLoaded

  abbrev pub put_asks : Side → Logbook → Option ℕ → Result (Unit {0}) Refusal
  put_asks s b None = Err BladeEmpty
  put_asks s b (Some p) = accepts s p b

  -- the first no, or the reply
  unfoldable pub answer_of : Visit → Logbook → Result Reply Refusal
  answer_of (Post s p) b = replied (λ _. Done) (accepts s p b)
  answer_of (Withdraw s p) b = replied (λ _. Done) (accepts s p b)
  answer_of (Take s p) b = replied (λ _. Done) (take_asks s p b b.load)
  answer_of (Put s) b = replied (λ _. Done) (put_asks s b b.load)
  answer_of WriteOff b = replied (λ p. Off (shown k p)) (ok_or b.load BladeEmpty)
  answer_of (Read s) b = replied Number (reading s b)

  -- what a granted visit writes down
  abbrev pub writes : Visit → Logbook → Logbook
  writes (Post s p) b = summing (k.worth p) (pos 0) (pos 0) (entering s (k.worth p) b)
  writes (Withdraw s p) b = summing (pos 0) (k.worth p) (pos 0) (entering s (neg_ℤ (k.worth p)) b)
  writes (Take s p) b = carrying (Some p) (entering s (neg_ℤ (k.worth p)) b)
  writes (Put s) b = carrying None (entering s (load_worth b.load) b)
  writes WriteOff b = carrying None (summing (pos 0) (pos 0) (load_worth b.load) b)
  writes (Read s) b = b

  -- a refused visit changes nothing
  unfoldable pub after : Visit → Logbook → Logbook
  after v b = cond (is_ok (answer_of v b)) (writes v b) b

  -- a list of visits, one after the other
  abbrev pub after_all : List Visit → Logbook → Logbook
  after_all vs b = fold (λ c v. after v c) b vs

  abbrev pub answers_of : List Visit → Logbook → List (Result Reply Refusal)
  answers_of vs b = scan (λ c v. after v c) (λ c v. answer_of v c) b vs
