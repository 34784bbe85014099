-- The logbook: the worths of the accepted entries, kept by the visits alone. What a visit is answered and leaves is told by it.
use Rattle.std.specs.Prelude.{ℕ, cond, List, [], ◌∷◌, ◌++◌, length, ℤ, neg_ℤ, is_ok, Ok, Result}
use Rattle.std.specs.Result.{result_and, result_map_both}
use Rattle.refusals.specs.declared.Refusal.{Refusal}
use Rattle.kinds.specs.declared.kind.Kind.{Ghosts}
use Rattle.kinds.specs.Answer.{answered}
use Rattle.accounts.specs.Meaning.{questions}
use Rattle.accounts.specs.Entries.{sum_of}
use Rattle.forms.specs.declared.words.Visit.{Visit}
use Rattle.forms.specs.declared.words.Visit.TheVariants.{Post, Withdraw, Read}
use Rattle.forms.specs.declared.words.Reply.{Reply}
use Rattle.forms.specs.declared.words.Reply.TheVariants.{Done, Number}

-- the worths of the left account's accepted entries, a withdrawn one negated, and how many there may be
pub record Logbook : Type 0 where
  pub left : List ℤ
  pub left_limit : ℕ

abbrev pub blank : ℕ → Logbook
blank most = record { left = []; left_limit = most }

-- one more entry, of worth w
abbrev pub entered : ℤ → Logbook → Logbook
entered w b = record { left = b.left ++ w ∷ []; left_limit = b.left_limit }

module _ {K : Type 0} (k : Ghosts K) where
  -- is it a number, are the entries below the limit
  abbrev pub accepts : ℕ → Logbook → Result (Unit {0}) Refusal
  accepts p b = questions k p (length b.left) b.left_limit

  abbrev pub answer_of : Visit → Logbook → Result Reply Refusal
  answer_of (Post s p) b = result_and (accepts p b) (Ok Done)
  answer_of (Withdraw s p) b = result_and (accepts p b) (Ok Done)
  answer_of (Read s) b = result_map_both Number (λ why. why) (answered (k.outcome (sum_of b.left)))

  -- a granted entry is written down, anything else changes nothing
  abbrev pub after : Visit → Logbook → Logbook
  after (Post s p) b = cond (is_ok (accepts p b)) (entered (k.worth p) b) b
  after (Withdraw s p) b = cond (is_ok (accepts p b)) (entered (neg_ℤ (k.worth p)) b) b
  after (Read s) b = b
