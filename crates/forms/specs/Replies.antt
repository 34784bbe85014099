-- The lines that are written.
use Rattle.std.specs.Prelude.{ℕ, List, [], ◌∷◌, ◌++◌, codes, decimal, Ok, Err, Result}
use Rattle.refusals.specs.Told.{told}
use Rattle.refusals.specs.declared.Refusal.{Refusal}
use Rattle.forms.specs.declared.words.Reply.{Reply}
use Rattle.forms.specs.declared.words.Reply.TheVariants.{Done, Number}
use Rattle.forms.specs.Text.{hex_text}

-- the bracket and the end of the line
abbrev pub closing : List ℕ
closing = codes ")" ++ (10 ∷ [])

abbrev pub number_reply : ℕ → ℕ → List ℕ
number_reply k p = codes "(number " ++ (hex_text k p ++ closing)

abbrev pub refused_reply : ℕ → List ℕ
refused_reply n = codes "(refused " ++ (decimal n ++ closing)

-- a word with its bracket and its blank, and two numbers
abbrev pub pair_reply : List ℕ → ℕ → ℕ → List ℕ
pair_reply word a b = word ++ (decimal a ++ (codes " " ++ (decimal b ++ closing)))

-- the line of an answer, with k digits to a number
abbrev pub answer_text : ℕ → Result Reply Refusal → List ℕ
answer_text k (Ok Done) = codes "(ok" ++ closing
answer_text k (Ok (Number p)) = number_reply k p
answer_text k (Err why) = refused_reply (told why).number

-- the last line, with the counts of the left and of the right
abbrev pub end_text : ℕ → ℕ → List ℕ
end_text l r = pair_reply (codes "(end ") l r

-- the most bytes that the line of an answer has, and that the last line has
abbrev pub answer_most : ℕ
answer_most = 26

abbrev pub end_most : ℕ
end_most = 28
