-- What a list of visits on a fresh ledger comes to, for every kind and every two accounts: the theorem of the ledger.
use Rattle.std.specs.Prelude.{◌≡◌, ℕ, List, ◌∷◌, ◌++◌, length, ℤ, ◌+ℤ◌, ◌-ℤ◌, Ok, Result}
use Rattle.refusals.specs.declared.Refusal.{Refusal}
use Rattle.join.specs.Orders.{Reordered}
use Rattle.numbers.specs.Lawful.{NoneNearer}
use Rattle.kinds.specs.declared.kind.Kind as kind
use Rattle.kinds.specs.Answer.{answered}
use Rattle.plans.specs.Plan.{Plan, text}
use Rattle.slots.specs.Pass.{ByRule, exact_sum}
use Rattle.slots.specs.Asked.{PassAnswer}
use Rattle.settle.specs.Test.{Names}
use Rattle.settle.specs.Settle.{SettleAnswer}
use Rattle.settle.specs.declared.settled.Settled.{Settled}
use Rattle.accounts.specs.Entries.{sum_of, meant}
use Rattle.accounts.specs.Meaning.{Meaning, read_answer}
use Rattle.accounts.specs.declared.account.Account.{Ghosts}
use Rattle.books.specs.Both.{at}
use Rattle.books.specs.Meant.{both_of}
use Rattle.books.specs.Agree.{load_of}
use Rattle.books.specs.Logbook.{Logbook, load_worth, replied, answers_of, after_all}
use Rattle.books.specs.declared.blade.Blade.{Blade}
use Rattle.books.specs.declared.ledger.Ledger.{Ledger}
use Rattle.books.specs.declared.visit.Side.{Side}
use Rattle.books.specs.declared.visit.Side.TheVariants.{Left, Right}
use Rattle.books.specs.declared.visit.Reply.{Reply}
use Rattle.books.specs.declared.visit.Reply.TheVariants.{Number}
use Rattle.books.specs.declared.visit.Visit.{Visit}
use Rattle.books.specs.declared.visit.Visit.TheVariants.{Read}

-- a pass under some plan left what the rule says, and kept the exact sum
pub record PassedExactly {K : Type 0} (k : kind.Ghosts K) (plan slots after : List ℕ) : Type 0 where
  pub by : Plan
  pub written : text by ≡ plan
  pub rule : ByRule k by slots after
  pub sum : exact_sum k after ≡ exact_sum k slots

-- the read at this place of the visits was answered by the outcome of v
pub record ReadGave {K : Type 0} (k : kind.Ghosts K) (place : ℕ) (answers : List (Result Reply Refusal)) (v : ℤ) : Type 0 where
  pub earlier : List (Result Reply Refusal)
  pub later : List (Result Reply Refusal)
  pub split : answers ≡ earlier ++ (replied Number (answered (k.outcome v)) ∷ later)
  pub there : length earlier ≡ place

module _ {K L R S T : Type 0} (k : kind.Ghosts K) (l : Ghosts L K S) (r : Ghosts R K T) where
  -- the ledger, the blade and the answers behind the visits, beside the logbook that was told both limits and then the same visits
  pub record LedgerTheorem (start : Logbook) (visits : List Visit) (ledger : Ledger K L R) (blade : Blade) (answers : List (Result Reply Refusal)) : Type 0 where
    -- the logbook gives the same answers: refusals with their number and place, write offs and all others
    pub same_answers : answers ≡ answers_of k visits start
    -- each account's total and entries are the sum and the length of its list
    pub totals : (s : Side) → (at s (both_of l r ledger)).total ≡ sum_of (at s (after_all k visits start).lists)
    pub entries : (s : Side) → (at s (both_of l r ledger)).entries ≡ length (at s (after_all k visits start).lists)
    -- the load on the blade has the worth of the logbook's
    pub load : load_worth k (load_of blade) ≡ load_worth k (after_all k visits start).load
    -- both totals and the load add up to what was posted less what was withdrawn or written off
    pub conserved : (at Left (both_of l r ledger)).total +ℤ (at Right (both_of l r ledger)).total +ℤ load_worth k (load_of blade)
        ≡ (after_all k visits start).posted -ℤ (after_all k visits start).withdrawn -ℤ (after_all k visits start).written_off
    -- every read gave the outcome of the exact sum of its account's entries accepted by then
    pub every_read : (before after : List Visit) (s : Side) → visits ≡ before ++ (Read s ∷ after)
        → ReadGave k (length before) answers (sum_of (at s (after_all k before start).lists))
    -- any two accounts of the kind with equal exact sums read alike, whichever order their entries had
    pub read_alike : (m n : Meaning) → m.total ≡ n.total → read_answer k m ≡ read_answer k n
    pub any_order : (a b : ℕ) (ws vs : List ℤ) → Reordered ws vs → read_answer k (meant a ws) ≡ read_answer k (meant b vs)
    -- under every plan a granted pass over any slots leaves what the rule says, adder by adder, and keeps their exact sum
    pub passes : (plan slots column slots' column' : List ℕ) → PassAnswer k plan slots column slots' column' (Ok tt) → PassedExactly k plan slots slots'
    -- the outcome that the test accepts, on any slots, is that of their exact sum
    pub test : (slots : List ℕ) (o : Result ℕ Refusal) → Names k slots o → o ≡ answered (k.outcome (exact_sum k slots))
    -- and so is what settle answers, by the test or by the register
    pub settle : (plan : List ℕ) (budget : ℕ) (slots column slots' column' : List ℕ) (o : Settled) → SettleAnswer k plan budget slots column slots' column' (Ok o)
        → o.outcome ≡ answered (k.outcome (exact_sum k slots))
    -- where such an outcome is a number, every other number of the kind lies at least as far from the sum
    pub nearest : (v : ℤ) (p : ℕ) → answered (k.outcome v) ≡ Ok p → NoneNearer k.number k.worth v p
