-- A number between its blank and its bracket.
use Rattle.std.proofs.Common.{◌≡◌, ℕ, List, [], ◌∷◌, ◌++◌, Some, None, Option, ap, ◌∙◌}
use mathlib.Core.List.{append_cancel_right}
use Rattle.forms.specs.Text.{word_text, hex_text, number_text, visit_text, NoText, NoFront, NumberMeans}
use Rattle.forms.specs.declared.words.Visit.TheVariants as visit
use Rattle.forms.specs.declared.words.Word.TheVariants.{Post, Withdraw, Read}

pub number_means : (k : ℕ) (xs rest ds : List ℕ) (o : Option ℕ) → xs ≡ 32 ∷ rest → rest ≡ ds ++ (41 ∷ []) → NumberMeans hex_text k ds o → NumberMeans number_text k xs o
number_means k xs rest ds None e f none =
    λ n g. let same : ds ++ (41 ∷ []) ≡ hex_text k n ++ (41 ∷ []) = cc in none n (append_cancel_right ds (hex_text k n) (41 ∷ []) same)
number_means k xs rest ds (Some n) e f (is, fits) = (e ∙ ap (λ x. 32 ∷ x) (f ∙ ap (λ x. x ++ (41 ∷ [])) is), fits)

pub no_visit : (k : ℕ) (xs : List ℕ) → NoFront word_text xs → NoText (visit_text k) xs
no_visit k xs none (visit.Post s n) e = none Post _ e
no_visit k xs none (visit.Withdraw s n) e = none Withdraw _ e
no_visit k xs none (visit.Read s) e = none Read _ e
