-- How a line is written, part by part, and what it means to have read one.
use Rattle.std.specs.Prelude.{◌≡◌, ℕ, zero, suc, ◌+◌, ◌-◌, ◌/◌, ◌%◌, ◌^◌, ◌<◌, cond, List, [], ◌∷◌, ◌++◌, Some, None, codes, Option, ◌≢◌, nat_lt}
use Rattle.forms.specs.declared.words.KindName.{KindName}
use Rattle.forms.specs.declared.words.KindName.TheVariants.{Binary64, Binary32, Count}
use Rattle.forms.specs.declared.words.Side.{Side}
use Rattle.forms.specs.declared.words.Side.TheVariants.{Left}
use Rattle.forms.specs.declared.words.Visit.{Visit}
use Rattle.forms.specs.declared.words.Visit.TheVariants as visit
use Rattle.forms.specs.declared.words.Word.{Word}
use Rattle.forms.specs.declared.words.Word.TheVariants.{Post, Withdraw, Read}

-- a kind's name and the bracket behind it
abbrev pub name_text : KindName → List ℕ
name_text Binary64 = codes "binary64)"
name_text Binary32 = codes "binary32)"
name_text Count = codes "count)"

-- the line that names a kind
abbrev pub kind_text : KindName → List ℕ
kind_text n = codes "(kind " ++ name_text n

-- the bracket, the word and the blank that a visit's line opens with
abbrev pub word_text : Word → List ℕ
word_text Post = codes "(post "
word_text Withdraw = codes "(withdraw "
word_text Read = codes "(read "

abbrev pub side_text : Side → List ℕ
side_text Left = codes "left"

-- the byte of a digit: 0 to 9, and then A to F
abbrev pub digit_text : ℕ → ℕ
digit_text d = cond (nat_lt d 10) (48 + d) (65 + (d - 10))

-- the last k hexadecimal digits of n
abbrev pub hex_text : ℕ → ℕ → List ℕ
hex_text zero n = []
hex_text (suc k) n = hex_text k (n / 16) ++ (digit_text (n % 16) ∷ [])

-- a number with the blank before it and the bracket behind it
abbrev pub number_text : ℕ → ℕ → List ℕ
number_text k n = codes " " ++ (hex_text k n ++ codes ")")

-- a side and a number behind the word
abbrev pub amount_text : ℕ → Side → ℕ → List ℕ
amount_text k s n = side_text s ++ number_text k n

-- a side and the bracket behind it
abbrev pub closed_side : Side → List ℕ
closed_side s = side_text s ++ codes ")"

-- the line that asks for a visit, with k digits to a number
abbrev pub visit_text : ℕ → Visit → List ℕ
visit_text k (visit.Post s n) = word_text Post ++ amount_text k s n
visit_text k (visit.Withdraw s n) = word_text Withdraw ++ amount_text k s n
visit_text k (visit.Read s) = word_text Read ++ closed_side s

-- k digits are enough for the visit's number
abbrev pub Fits : ℕ → Visit → Type 0
Fits k (visit.Post s n) = n < 16 ^ k
Fits k (visit.Withdraw s n) = n < 16 ^ k
Fits k (visit.Read s) = Unit {0}

-- xs is the text of nothing
abbrev pub NoText : {A : Type 0} → (A → List ℕ) → List ℕ → Type 0
NoText {A} text xs = (a : A) → xs ≢ text a

-- xs begins with the text of nothing
abbrev pub NoFront : {A : Type 0} → (A → List ℕ) → List ℕ → Type 0
NoFront {A} text xs = (a : A) (rest : List ℕ) → xs ≢ text a ++ rest

-- what was read of a byte, None where it is no digit
abbrev pub DigitMeans : ℕ → Option ℕ → Type 0
DigitMeans b None = (d : ℕ) → d < 16 → b ≢ digit_text d
DigitMeans b (Some d) = (d < 16) × (b ≡ digit_text d)

-- what was read of xs, where `text` says how a number is written in k digits
abbrev pub NumberMeans : (ℕ → ℕ → List ℕ) → ℕ → List ℕ → Option ℕ → Type 0
NumberMeans text k xs None = NoText (text k) xs
NumberMeans text k xs (Some n) = (xs ≡ text k n) × (n < 16 ^ k)

-- what was read of a line: the visit whose text it is, or None where it is the text of no visit
abbrev pub VisitMeans : ℕ → List ℕ → Option Visit → Type 0
VisitMeans k xs None = NoText (visit_text k) xs
VisitMeans k xs (Some v) = (xs ≡ visit_text k v) × Fits k v

-- and so with a kind
abbrev pub KindMeans : List ℕ → Option KindName → Type 0
KindMeans xs None = NoText kind_text xs
KindMeans xs (Some n) = xs ≡ kind_text n
