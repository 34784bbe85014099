-- What bytes that are fed come to: the lines that they end are answered one by one, and what is left is the line so far.
use Rattle.std.specs.Prelude.{◌≡◌, ℕ, List, [], ◌∷◌, ◌++◌, ◌≢◌, fold}
use Rattle.std.specs.List.{All, flat_map}
use Rattle.session.specs.Book.{Book, reply, heard}

-- the byte ends no line, and none of these does
abbrev pub NoEnd : ℕ → Type 0
NoEnd x = x ≢ 10

abbrev pub Plain : List ℕ → Type 0
Plain xs = All NoEnd xs

-- the bytes of some lines, each with its end
abbrev pub ended : List (List ℕ) → List ℕ
ended lines = flat_map (λ line. line ++ 10 ∷ []) lines

-- all their answers, and the book behind them
abbrev pub replies : Book → List (List ℕ) → List ℕ
replies b [] = []
replies b (line ∷ lines) = reply b line ++ replies (heard b line) lines

abbrev pub heard_all : Book → List (List ℕ) → Book
heard_all b lines = fold heard b lines

-- a session with the book b and the line so far is fed a chunk: it writes the answers, and stands with the book c and a new line so far
pub record Fed (b : Book) (line chunk written : List ℕ) (c : Book) (next : List ℕ) : Type 0 where
  pub lines : List (List ℕ)
  pub text : line ++ chunk ≡ ended lines ++ next
  pub plain : All Plain lines
  pub plain_next : Plain next
  pub answers : written ≡ replies b lines
  pub book : c ≡ heard_all b lines

-- how the bytes are cut does not show: two chunks one after the other come to what they come to as one
abbrev pub Cuts : Type 0
Cuts =
    (a b c : Book) (line next last chunk more written later : List ℕ) → Fed a line chunk written b next → Fed b next more later c last
    → Fed a line (chunk ++ more) (written ++ later) c last

-- and there is one answer only
pub record Same (written later : List ℕ) (b c : Book) (next last : List ℕ) : Type 0 where
  pub answers : written ≡ later
  pub book : b ≡ c
  pub rest : next ≡ last

abbrev pub Only : Type 0
Only =
    (a b c : Book) (line next last chunk written later : List ℕ) → Fed a line chunk written b next → Fed a line chunk later c last
    → Same written later b c next last
