-- The theorem of the ledger, from a ledger that agrees with its logbook behind the visits.
use Rattle.std.proofs.Common.{◌≡◌, ℕ, List, ◌∷◌, ◌++◌, length, ℤ, ◌+ℤ◌, Ok, Result, refl, ap, ◌∙◌}
use Rattle.refusals.specs.declared.Refusal.{Refusal}
use Rattle.numbers.specs.Lawful.{Lawful}
use Rattle.kinds.specs.declared.kind.Kind as kind
use Rattle.kinds.specs.Answer.{answered}
use Rattle.slots.specs.Asked.{PassAnswer}
use Rattle.slots.specs.Pass.{exact_sum, passed}
use Rattle.slots.proofs.Keeps.{keeps}
use Rattle.settle.proofs.Settling.{nearest_read}
use Rattle.settle.proofs.Tested.{tells}
use Rattle.accounts.specs.Entries.{sum_of}
use Rattle.accounts.specs.Meaning.{Meaning}
use Rattle.accounts.specs.declared.account.Account.{Ghosts}
use Rattle.accounts.proofs.Entries.{any_order_lem}
use Rattle.books.specs.Both.{at}
use Rattle.books.specs.Meant.{both_of}
use Rattle.books.specs.Agree.{Agrees}
use Rattle.books.specs.Logbook.{Logbook, blank, load_worth, answer_of, after, answers_of, after_all}
use Rattle.books.specs.Theorem.{PassedExactly, ReadGave, LedgerTheorem}
use Rattle.books.specs.declared.blade.Blade.{Blade}
use Rattle.books.specs.declared.ledger.Ledger.{Ledger}
use Rattle.books.specs.declared.visit.Side.{Side}
use Rattle.books.specs.declared.visit.Side.TheVariants.{Left, Right}
use Rattle.books.specs.declared.visit.Reply.{Reply}
use Rattle.books.specs.declared.visit.Visit.{Visit}
use Rattle.books.specs.declared.visit.Visit.TheVariants.{Read}
use Rattle.books.proofs.Balance.{all_balance}
use Rattle.books.proofs.Scans.{scan_append, length_scan}

every_read_lem : {K : Type 0} (k : kind.Ghosts K) (start : Logbook) (vs : List Visit) (answers : List (Result Reply Refusal)) → answers ≡ answers_of k vs start
    → (before after : List Visit) (s : Side) → vs ≡ before ++ (Read s ∷ after) → ReadGave k (length before) answers (sum_of (at s (after_all k before start).lists))
unfolding answer_of
every_read_lem k start vs answers e before later s f =
    let b = after_all k before start in
    record {
      earlier = answers_of k before start;
      later = answers_of k later (after k (Read s) b);
      split = e ∙ ap (λ (us : List Visit). answers_of k us start) f ∙ scan_append (λ c v. after k v c) (λ c v. answer_of k v c) start before (Read s ∷ later);
      there = length_scan (λ c v. after k v c) (λ c v. answer_of k v c) start before;
    }

module _ {K : Type 0} (k : kind.Ghosts K) (l : Lawful k.number k.worth k.opposite k.adder k.outcome) where
  exactly : (plan slots column slots' column' : List ℕ) → PassAnswer k plan slots column slots' column' (Ok tt) → PassedExactly k plan slots slots'
  exactly plan slots column slots' column' (granted, passed, cleared) =
      let kept = keeps k l passed.by slots passed.counted granted.numbers in
      record {
        by = passed.by;
        written = passed.written;
        rule = rw passed.made kept.rule;
        sum = ap (exact_sum k) passed.made ∙ kept.sum;
      }

  module _ {L R S T : Type 0} (a : Ghosts L K S) (c : Ghosts R K T) where
    pub theorem : (m n : ℕ) (vs : List Visit) (x : Ledger K L R) (blade : Blade) (answers : List (Result Reply Refusal))
        → answers ≡ answers_of k vs (blank m n) → Agrees a c x blade (after_all k vs (blank m n)) → LedgerTheorem k a c (blank m n) vs x blade answers
    theorem m n vs x blade answers e g =
        let b = after_all k vs (blank m n) in
        let total : (s : Side) → (at s (both_of a c x)).total ≡ sum_of (at s b.lists) = λ s. ap (λ (w : Meaning). w.total) (g.sides s) in
        let load = ap (load_worth k) g.load in
        let balance = all_balance k vs (blank m n) refl in
        record {
          same_answers = e;
          totals = total;
          entries = λ s. ap (λ (w : Meaning). w.entries) (g.sides s);
          load = load;
          conserved = (λ i. total Left i +ℤ total Right i +ℤ load i) ∙ balance;
          every_read = every_read_lem k (blank m n) vs answers e;
          read_alike = λ w z h. ap (λ (v : ℤ). answered (k.outcome v)) h;
          any_order = λ _ _ ws us h. ap (λ (v : ℤ). answered (k.outcome v)) (any_order_lem ws us h);
          passes = exactly;
          test = (tells k l).names;
          settle = λ plan budget slots column slots' column' o h. h.1.outcome;
          nearest = nearest_read k l;
        }
