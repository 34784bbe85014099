-- A slot that holds nothing: that there is one, and what a number in it changes.
use Rattle.std.proofs.Common.{◌≡◌, ℕ, zero, suc, ◌+◌, ◌-◌, ◌<◌, ◌≤◌, min, List, [], ◌∷◌, length, get_or, set, pos, ◌+ℤ◌, nat_abs, subst, inl, inr, arith}
use borrow.Author.Differences.{ints}
use Rattle.std.proofs.lemmas.Bool.{cases_lt}
use Rattle.kinds.specs.declared.kind.Kind.{Ghosts}
use Rattle.slots.specs.Pass.{exact_sum, in_use}

module _ {K : Type 0} (k : Ghosts K) where
  used : (x : ℕ) → (k.worth x ≡ pos 0 → ⊥) → 1 ≤ min 1 (nat_abs (k.worth x))
  used x f =
      elim (cases_lt 0 (nat_abs (k.worth x))) [
        | inl a ↦ omega arith
        | inr a ↦ absurd (f (omega (arith, ints)))
      ]

  -- slot j is in use
  abbrev pub InUse : List ℕ → ℕ → Type 0
  InUse xs j = k.worth (get_or xs j 0) ≡ pos 0 → ⊥

  -- where every slot from i up is in use, at least so many are
  crowded : (xs : List ℕ) (i : ℕ) → ((j : ℕ) → i ≤ j → j < length xs → InUse xs j) → length xs ≤ in_use k xs + i
  crowded [] i f = omega arith
  crowded (x ∷ xs) zero f =
      let here = used x (f 0 (omega arith) (omega arith)) in
      let more = crowded xs 0 (λ j a b. f (suc j) (omega arith) (omega arith)) in
      omega arith
  crowded (x ∷ xs) (suc i) f =
      let more = crowded xs i (λ j a b. f (suc j) (omega arith) (omega arith)) in
      omega arith

  -- every slot above i is in use, and i is not slot 0
  pub record Above (xs : List ℕ) (i : ℕ) : Type 0 where
    pub above : 1 ≤ i
    pub within : i < length xs
    pub highest : (j : ℕ) → i < j → j < length xs → InUse xs j

  pub above_less : (xs : List ℕ) (i : ℕ) → in_use k xs + 1 < length xs → Above xs i → InUse xs i → Above xs (i - 1)
  above_less xs i room a here =
      let from : (j : ℕ) → i ≤ j → j < length xs → InUse xs j =
      λ j le lt z. elim (cases_lt i j) [
        | inl up ↦ a.highest j up lt z
        | inr same ↦ let e : j ≡ i = omega arith in here (subst (λ m. k.worth (get_or xs m 0) ≡ pos 0) e z)
      ]
      in
      let most = crowded xs i from in
      record { above = omega arith; within = omega (arith, a.within); highest = λ j up lt. from j (omega arith) lt }

  pub in_use_set : (xs : List ℕ) (i p : ℕ) → in_use k (set xs i p) ≤ in_use k xs + 1
  in_use_set [] i p = omega arith
  in_use_set (x ∷ xs) zero p = omega arith
  in_use_set (x ∷ xs) (suc i) p = let h = in_use_set xs i p in omega arith

  pub exact_sum_set : (xs : List ℕ) (i p : ℕ) → i < length xs → k.worth (get_or xs i 0) ≡ pos 0 → exact_sum k (set xs i p) ≡ exact_sum k xs +ℤ k.worth p
  exact_sum_set [] i p h z = absurd (omega arith)
  exact_sum_set (x ∷ xs) zero p h z = omega (arith, ints)
  exact_sum_set (x ∷ xs) (suc i) p h z = let e = exact_sum_set xs i p (omega arith) z in omega (arith, ints)
