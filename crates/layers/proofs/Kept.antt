-- One entry more that is kept, or one more below.
use Rattle.std.proofs.Common.{◌≡◌, ℕ, ◌+◌, cond, List, [], ◌∷◌, ◌++◌, length, ℤ, ◌+ℤ◌, is_ok, Ok, fold, Result, sym, refl, ap, ◌∙◌, arith}
use Rattle.std.proofs.lemmas.List.{length_push}
use Rattle.std.proofs.lemmas.List.Sums.{fold_push}
use Rattle.refusals.specs.declared.Refusal.{Refusal}
use Rattle.kinds.specs.declared.kind.Kind.{Ghosts}
use Rattle.accounts.specs.Meaning.{Meaning, with_entry, entry_answer, after_post}
use Rattle.layers.specs.Staged.{with_kept, EntersAll}

module _ (worth : ℕ → ℤ) (m : Meaning) where
  -- one entry more is kept
  pub kept_push : (ps : List ℕ) (p : ℕ) → with_kept worth (ps ++ p ∷ []) m ≡ with_entry (worth p) (with_kept worth ps m)
  kept_push ps p =
      ap (λ (t : ℤ). record { total = t; entries = m.entries + length (ps ++ p ∷ []); limit = m.limit }) (fold_push (λ sum q. sum +ℤ worth q) m.total ps p)
      ∙ ap (λ (j : ℕ). record { total = fold (λ sum q. sum +ℤ worth q) m.total ps +ℤ worth p; entries = j; limit = m.limit }) (omega (arith, length_push ps p))

pub enters_push : {X : Type 0} (enters : X → ℕ → X → Type 0) (x z y : X) (ps : List ℕ) (p : ℕ) → EntersAll enters x ps z → enters z p y → EntersAll enters x (ps ++ p ∷ []) y
enters_push enters x z y [] p e h = (y, (rw e at h, refl))
enters_push enters x z y (q ∷ ps) p (w, (first, rest)) h = (w, (first, enters_push enters w z y ps p rest h))

pub granted : {K : Type 0} (k : Ghosts K) (p : ℕ) (m : Meaning) {r : Result (Unit {0}) Refusal} → r ≡ entry_answer k p m → r ≡ Ok tt → after_post k p m ≡ with_entry (k.worth p) m
granted k p m e o = ap (λ (t : Result (Unit {0}) Refusal). cond (is_ok t) (with_entry (k.worth p) m) m) (sym e ∙ o)
