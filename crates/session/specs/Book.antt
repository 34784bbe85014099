-- What a session has heard so far, and what a line is answered and leaves.
use Rattle.std.specs.Prelude.{◌≡◌, ℕ, ◌^◌, ◌<◌, List, [], ◌∷◌, ◌++◌, length, Some, None, Ok, Err, Option, Result}
use Rattle.refusals.specs.declared.Refusal.{Refusal}
use Rattle.refusals.specs.declared.Refusal.TheVariants.{NotAForm}
use Rattle.numbers.specs.Binary.{binary64, binary32, binary}
use Rattle.numbers.specs.Coding.{Coding}
use Rattle.kinds.specs.Coded.{coded}
use Rattle.kinds.specs.Count.{counts}
use Rattle.kinds.specs.declared.kind.Kind.{Ghosts}
use Rattle.forms.specs.Read.{read_visit, read_kind}
use Rattle.forms.specs.Replies.{answer_text, end_text}
use Rattle.forms.specs.declared.words.KindName.{KindName}
use Rattle.forms.specs.declared.words.KindName.TheVariants.{Binary64, Binary32, Count}
use Rattle.forms.specs.declared.words.Visit.{Visit}
use Rattle.forms.specs.declared.words.Reply.{Reply}
use Rattle.forms.specs.declared.words.Reply.TheVariants.{Done, Number}
use Rattle.session.specs.Logbook.{Logbook, blank, answer_of, after}

-- no kind was told yet, or a kind and what its logbook says
pub data Book : Type 0 where
  untold : Book
  told : KindName → Logbook → Book

-- how a kind is coded, and the digits of its patterns
abbrev pub coding : KindName → Coding
coding Binary64 = binary binary64
coding Binary32 = binary binary32
coding Count = counts

abbrev pub digits_of : KindName → ℕ
digits_of Binary64 = 16
digits_of Binary32 = 8
digits_of Count = 8

abbrev pub digits : Book → ℕ
digits untold = 8
digits (told n b) = digits_of n

abbrev pub kind_by : KindName → Ghosts (Unit {0})
kind_by n = coded (coding n)

-- the left account is a register account
abbrev pub opened : Logbook
opened = blank 4294967295

-- a line that is no form in its turn is refused and changes nothing
abbrev pub kind_answer : Option KindName → Result Reply Refusal
kind_answer None = Err NotAForm
kind_answer (Some n) = Ok Done

abbrev pub begun : Option KindName → Book
begun None = untold
begun (Some n) = told n opened

module _ {K : Type 0} (k : Ghosts K) where
  abbrev pub visit_answer : Option Visit → Logbook → Result Reply Refusal
  visit_answer None b = Err NotAForm
  visit_answer (Some v) b = answer_of k v b

  abbrev pub visited : Option Visit → Logbook → Logbook
  visited None b = b
  visited (Some v) b = after k v b

-- what a line is answered, and what it leaves
abbrev pub answer_to : Book → List ℕ → Result Reply Refusal
answer_to untold line = kind_answer (read_kind line)
answer_to (told n b) line = visit_answer (kind_by n) (read_visit (digits_of n) line) b

abbrev pub heard : Book → List ℕ → Book
heard untold line = begun (read_kind line)
heard (told n b) line = told n (visited (kind_by n) (read_visit (digits_of n) line) b)

abbrev pub reply : Book → List ℕ → List ℕ
reply b line = answer_text (digits b) (answer_to b line)

-- at the end of the input: a line that has no end is refused, and then come both counts of entries
abbrev pub unfinished : List ℕ → List ℕ
unfinished [] = []
unfinished (b ∷ bs) = answer_text 8 (Err NotAForm)

abbrev pub entries : Book → ℕ
entries untold = 0
entries (told n b) = length b.left

abbrev pub ending : Book → List ℕ → List ℕ
ending b line = unfinished line ++ end_text (entries b) 0

-- a number that is answered has all its digits
abbrev pub Shown : Type 0
Shown = (b : Book) (line : List ℕ) (p : ℕ) → answer_to b line ≡ Ok (Number p) → p < 16 ^ digits b
