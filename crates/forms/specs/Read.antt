-- What a line is read as, and the laws that this keeps.
use Rattle.std.specs.Prelude.{◌≡◌, ℕ, ◌+◌, ◌-◌, ◌*◌, cond, List, take, drop, fold, Some, None, Option, ◌==◌, nat_lt, slice_index}
use Rattle.std.specs.Str.{bytes_eq}
use Rattle.forms.specs.declared.words.KindName.{KindName}
use Rattle.forms.specs.declared.words.KindName.TheVariants.{Binary64, Binary32, Count}
use Rattle.forms.specs.declared.words.Side.TheVariants.{Left}
use Rattle.forms.specs.declared.words.Visit.{Visit}
use Rattle.forms.specs.declared.words.Visit.TheVariants.{Post, Withdraw, Read}
use Rattle.forms.specs.Text.{visit_text, kind_text, Fits}

-- what the byte of a digit is worth
abbrev pub digit_value : ℕ → ℕ
digit_value b = cond (nat_lt b 65) (b - 48) (b - 55)

-- what digits are worth behind others worth a
abbrev pub hex_value : ℕ → List ℕ → ℕ
hex_value a bs = fold (λ n b. n * 16 + digit_value b) a bs

-- the number whose k digits begin at i
abbrev pub number_at : ℕ → ℕ → List ℕ → ℕ
number_at k i xs = hex_value 0 (take k (drop i xs))

-- the only visit that the line can be the text of, told by its third byte: the o of post, the i of withdraw, or the e of read
abbrev pub candidate : ℕ → List ℕ → Visit
candidate k xs =
    cond (slice_index xs 2 == 111) (Post Left (number_at k 11 xs))
    (cond (slice_index xs 2 == 105) (Withdraw Left (number_at k 15 xs)) (Read Left))

-- the visit that the line is the text of
unfoldable pub read_visit : ℕ → List ℕ → Option Visit
read_visit k xs = cond (bytes_eq xs (visit_text k (candidate k xs))) (Some (candidate k xs)) None

-- the kind that the line is the text of
unfoldable pub read_kind : List ℕ → Option KindName
read_kind xs =
    cond (bytes_eq xs (kind_text Binary64)) (Some Binary64)
    (cond (bytes_eq xs (kind_text Binary32)) (Some Binary32) (cond (bytes_eq xs (kind_text Count)) (Some Count) None))

-- a line is read as a visit exactly where it is that visit's text
pub record VisitsExact : Type 0 where
  pub text : (k : ℕ) (xs : List ℕ) (v : Visit) → read_visit k xs ≡ Some v → (xs ≡ visit_text k v) × Fits k v
  pub read : (k : ℕ) (v : Visit) → Fits k v → read_visit k (visit_text k v) ≡ Some v

-- and as a kind exactly where it is that kind's text
pub record KindsExact : Type 0 where
  pub text : (xs : List ℕ) (n : KindName) → read_kind xs ≡ Some n → xs ≡ kind_text n
  pub read : (n : KindName) → read_kind (kind_text n) ≡ Some n
