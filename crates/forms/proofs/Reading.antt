-- What the readers answer is what the line is read as.
use Rattle.std.proofs.Common.{◌≡◌, ℕ, zero, suc, ◌+◌, ◌*◌, ◌/◌, ◌%◌, ◌^◌, ◌<◌, ◌≤◌, cond, List, [], ◌∷◌, ◌++◌, length, take, Some, None, Option, sym, refl, ap, ◌∙◌, subst, mod-lt, pow-suc, arith, take_all}
use lib.Seq.{take-append-le}
use Rattle.std.specs.Str.{bytes_eq}
use Rattle.std.proofs.lemmas.Slice.Eq.{bytes_eq-Decides}
use Rattle.std.proofs.lemmas.Option.{cond_some}
use Rattle.std.proofs.lemmas.List.Sums.{fold_push}
use Rattle.forms.specs.declared.words.KindName.{KindName}
use Rattle.forms.specs.declared.words.KindName.TheVariants.{Binary64, Binary32, Count}
use Rattle.forms.specs.declared.words.Side.TheVariants.{Left}
use Rattle.forms.specs.declared.words.Visit.{Visit}
use Rattle.forms.specs.declared.words.Visit.TheVariants.{Post, Withdraw, Read}
use Rattle.forms.specs.Text.{digit_text, hex_text, visit_text, kind_text, Fits, VisitMeans, KindMeans}
use Rattle.forms.specs.Read.{digit_value, hex_value, candidate, read_visit, read_kind, VisitsExact, KindsExact}
use Rattle.forms.proofs.Hexes.{length_hex}

digit_back : (d : ℕ) → d < 16 → digit_value (digit_text d) ≡ d
digit_back d h = grind arith

-- what the last digit adds to the others
value_step : (k n : ℕ) → hex_value 0 (hex_text (suc k) n) ≡ hex_value 0 (hex_text k (n / 16)) * 16 + n % 16
value_step k n =
    fold_push (λ (v b : ℕ). v * 16 + digit_value b) 0 (hex_text k (n / 16)) (digit_text (n % 16))
    ∙ ap (λ d. hex_value 0 (hex_text k (n / 16)) * 16 + d) (digit_back (n % 16) (mod-lt n (omega arith)))

value_less : (k n : ℕ) → hex_value 0 (hex_text k n) < 16 ^ k
value_less zero n = omega arith
value_less (suc k) n =
    let less = value_less k (n / 16) in
    let small : n % 16 < 16 = mod-lt n (omega arith) in
    omega (arith, value_step k n, pow-suc 16 k)

value_hex : (k n : ℕ) → n < 16 ^ k → hex_value 0 (hex_text k n) ≡ n
value_hex zero n h = omega arith
value_hex (suc k) n h =
    let e : 16 ^ (suc k) ≡ 16 ^ k * 16 = pow-suc 16 k in
    let less : n / 16 < 16 ^ k = omega arith in
    let v = value_hex k (n / 16) less in
    value_step k n ∙ omega arith

-- the digits before the bracket
before : (k n : ℕ) → take k (hex_text k n ++ (41 ∷ [])) ≡ hex_text k n
before k n =
    let le : k ≤ length (hex_text k n) = omega (arith, length_hex k n) in
    take-append-le k (hex_text k n) (41 ∷ []) le ∙ take_all k (hex_text k n) (omega (arith, length_hex k n))

number_back : (k n : ℕ) → n < 16 ^ k → hex_value 0 (take k (hex_text k n ++ (41 ∷ []))) ≡ n
number_back k n h = ap (hex_value 0) (before k n) ∙ value_hex k n h

number_less : (k n : ℕ) → hex_value 0 (take k (hex_text k n ++ (41 ∷ []))) < 16 ^ k
number_less k n = subst (λ ds. hex_value 0 ds < 16 ^ k) (sym (before k n)) (value_less k n)

candidate_is : (k : ℕ) (v : Visit) → Fits k v → candidate k (visit_text k v) ≡ v
candidate_is k (Post Left n) f = ap (Post Left) (number_back k n f)
candidate_is k (Withdraw Left n) f = ap (Withdraw Left) (number_back k n f)
candidate_is k (Read Left) f = refl

candidate_fits : (k : ℕ) (v : Visit) → Fits k (candidate k (visit_text k v))
candidate_fits k (Post Left n) = number_less k n
candidate_fits k (Withdraw Left n) = number_less k n
candidate_fits k (Read Left) = tt

visit_read : (k : ℕ) (v : Visit) → Fits k v → read_visit k (visit_text k v) ≡ Some v
unfolding read_visit
visit_read k v f =
    subst (λ (w : Visit). cond (bytes_eq (visit_text k v) (visit_text k w)) (Some w) None ≡ Some v) (sym (candidate_is k v f))
    (ap (λ t. cond t (Some v) None) ((bytes_eq-Decides (visit_text k v) (visit_text k v)).1 refl))

visit_is : (k : ℕ) (xs : List ℕ) (v : Visit) → read_visit k xs ≡ Some v → (xs ≡ visit_text k v) × Fits k v
unfolding read_visit
visit_is k xs v s =
    let w = candidate k xs in
    let is = cond_some (bytes_eq xs (visit_text k w)) w v s in
    let text : xs ≡ visit_text k w = (bytes_eq-Decides xs (visit_text k w)).0 is.0 in
    let fits : Fits k w = subst (λ ys. Fits k (candidate k ys)) (sym text) (candidate_fits k w) in
    subst (λ (y : Visit). (xs ≡ visit_text k y) × Fits k y) is.1 (text, fits)

pub visits_exact : VisitsExact
visits_exact = record { text = visit_is; read = visit_read }

none_is : {A : Type 0} (o : Option A) → ((a : A) → o ≡ Some a → ⊥) → None ≡ o
none_is None f = refl
none_is (Some a) f = absurd (f a refl)

-- what was read by the relation is what the line is read as
pub visit_value : (k : ℕ) (xs : List ℕ) (r : Option Visit) → VisitMeans k xs r → r ≡ read_visit k xs
visit_value k xs None none = none_is (read_visit k xs) (λ v e. none v (visit_is k xs v e).0)
visit_value k xs (Some v) m = sym (visit_read k v m.1) ∙ ap (read_visit k) (sym m.0)

kind_read : (n : KindName) → read_kind (kind_text n) ≡ Some n
unfolding read_kind
kind_read Binary64 = refl
kind_read Binary32 = refl
kind_read Count = refl

kind_is : (xs : List ℕ) (n : KindName) → read_kind xs ≡ Some n → xs ≡ kind_text n
unfolding read_kind
kind_is xs n s =
    let is = λ (m : KindName). (bytes_eq-Decides xs (kind_text m)).0 in
    grind (arith, is Binary64, is Binary32, is Count)

pub kinds_exact : KindsExact
kinds_exact = record { text = kind_is; read = kind_read }

pub kind_value : (xs : List ℕ) (r : Option KindName) → KindMeans xs r → r ≡ read_kind xs
kind_value xs None none = none_is (read_kind xs) (λ n e. none n (kind_is xs n e))
kind_value xs (Some n) m = sym (kind_read n) ∙ ap read_kind (sym m)
