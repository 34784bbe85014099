-- The accepted entries of an account, told by their worths.
use Rattle.std.specs.Prelude.{◌≡◌, ℕ, cond, List, [], ◌∷◌, ◌++◌, length, ℤ, pos, ◌+ℤ◌, neg_ℤ, is_ok, fold, Result}
use Rattle.refusals.specs.declared.Refusal.{Refusal}
use Rattle.join.specs.Orders.{Reordered}
use Rattle.kinds.specs.declared.kind.Kind.{Ghosts}
use Rattle.kinds.specs.Answer.{answered}
use Rattle.accounts.specs.Meaning.{Meaning, questions}
use Rattle.accounts.specs.declared.readings.Entry.{Entry}
use Rattle.accounts.specs.declared.readings.Entry.TheVariants.{Post, Withdraw}

-- the exact sum of some worths
abbrev pub sum_of : List ℤ → ℤ
sum_of ws = fold ◌+ℤ◌ (pos 0) ws

-- an account of this limit with these accepted entries
abbrev pub meant : ℕ → List ℤ → Meaning
meant most ws = record { total = sum_of ws; entries = length ws; limit = most }

-- the same worths in another order have the same sum
abbrev pub AnyOrder : Type 0
AnyOrder = (ws vs : List ℤ) → Reordered ws vs → sum_of ws ≡ sum_of vs

module _ {K : Type 0} (k : Ghosts K) where
  -- the entries so far and one of worth w more, if its pattern is accepted
  abbrev pub entered : ℕ → ℕ → ℤ → List ℤ → List ℤ
  entered most p w ws = cond (is_ok (questions k p (length ws) most)) (ws ++ w ∷ []) ws

  abbrev pub entered_by : ℕ → List ℤ → Entry → List ℤ
  entered_by most ws (Post p) = entered most p (k.worth p) ws
  entered_by most ws (Withdraw p) = entered most p (neg_ℤ (k.worth p)) ws

  -- the accepted ones of some entries, each asked after those before it
  abbrev pub accepted : ℕ → List Entry → List ℤ
  accepted most es = fold (entered_by most) [] es

  -- what two accounts read that were fresh, had these limits and took these entries
  pub record Readings (most more : ℕ) (first second : List Entry) (one other : Result ℕ Refusal) : Type 0 where
    pub exact_one : one ≡ answered (k.outcome (sum_of (accepted most first)))
    pub exact_other : other ≡ answered (k.outcome (sum_of (accepted more second)))
    pub alike : sum_of (accepted most first) ≡ sum_of (accepted more second) → one ≡ other
    pub any_order : Reordered (accepted most first) (accepted more second) → one ≡ other
