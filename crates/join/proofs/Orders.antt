-- By a join's laws every bracketing and every order of the items comes to the same.
use Rattle.std.proofs.Common.{◌≡◌, List, [], ◌∷◌, ◌++◌, fold, sym, refl, ap, ◌∙◌}
use mathlib.Core.List.{Permᴰ}
use Rattle.join.specs.Orders.{Bracketed, empty, item, pair, items_of, joined_by, Reordered}

module _ {X : Type 0} {neutral : X} {join : X → X → X} (assoc : (a b c : X) → join (join a b) c ≡ join a (join b c)) (comm : (a b : X) → join a b ≡ join b a) (unit : (a : X) → join a neutral ≡ a) where
  from : (a : X) (xs : List X) → fold join a xs ≡ join a (fold join neutral xs)
  from a [] = sym (unit a)
  from a (x ∷ xs) =
      from (join a x) xs ∙ assoc a x (fold join neutral xs)
      ∙ ap (join a) (sym (from (join neutral x) xs ∙ ap (λ y. join y (fold join neutral xs)) (comm neutral x ∙ unit x)))

  first : (x : X) (xs : List X) → fold join neutral (x ∷ xs) ≡ join x (fold join neutral xs)
  first x xs = ap (λ y. fold join y xs) (comm neutral x ∙ unit x) ∙ from x xs

  parts : (xs ys : List X) → fold join neutral (xs ++ ys) ≡ join (fold join neutral xs) (fold join neutral ys)
  parts [] ys = sym (comm neutral (fold join neutral ys) ∙ unit (fold join neutral ys))
  parts (x ∷ xs) ys = first x (xs ++ ys) ∙ ap (join x) (parts xs ys) ∙ sym (assoc x (fold join neutral xs) (fold join neutral ys)) ∙ ap (λ y. join y (fold join neutral ys)) (sym (first x xs))

  bracketed : (t : Bracketed X) → joined_by join neutral t ≡ fold join neutral (items_of t)
  bracketed empty = refl
  bracketed (item x) = sym (comm neutral x ∙ unit x)
  bracketed (pair s t) = (λ i. join (bracketed s i) (bracketed t i)) ∙ sym (parts (items_of s) (items_of t))

  pub reordered : {xs ys : List X} → Permᴰ xs ys → fold join neutral xs ≡ fold join neutral ys
  reordered Permᴰ.nil = refl
  reordered (Permᴰ.cons {a = a} {b = b} {l₁ = xs} {l₂ = ys} e p) = first a xs ∙ (λ i. join (e i) (reordered p i)) ∙ sym (first b ys)
  reordered (Permᴰ.swap {a = a} {b = b} {a' = c} {b' = d} {l = l} e f) =
      let r = fold join neutral l in
      first a (b ∷ l) ∙ ap (join a) (first b l) ∙ sym (assoc a b r) ∙ ap (λ y. join y r) (comm a b) ∙ assoc b a r ∙ (λ i. join (f i) (join (e i) r))
      ∙ sym (first c (d ∷ l) ∙ ap (join c) (first d l))
  reordered (Permᴰ.trans p q) = reordered p ∙ reordered q

  pub any_way : (t : Bracketed X) (xs : List X) → Reordered (items_of t) xs → joined_by join neutral t ≡ fold join neutral xs
  any_way t xs p = bracketed t ∙ reordered p
