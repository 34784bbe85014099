-- What a pass keeps, from the laws of a kind alone.
use Rattle.std.proofs.Common.{◌≡◌, ℕ, ◌+◌, ◌≤◌, min, T, List, [], ◌∷◌, ◌++◌, length, take, drop, ℤ, ◌+ℤ◌, nat_abs, sym, refl, ap, ◌∙◌, subst, inl, inr, arith, length-append, length-drop, take_all, take-add}
use borrow.Author.Differences.{ints}
use Rattle.std.proofs.lemmas.Bool.{cases_lt}
use Rattle.numbers.specs.Lawful.{Lawful}
use Rattle.kinds.specs.declared.kind.Kind.{Ghosts}
use Rattle.plans.specs.Plan.{Plan, dot, pair, dots}
use Rattle.std.proofs.lemmas.List.Elements.{All-nil, All-cons, All-head, All-tail, All-append, All-drop}
use Rattle.slots.specs.Pass.{sum_of, rest_of, value, remains, passed, Adds, slot, both, ByRule, Numbers, exact_sum, in_use, PassKeeps}

-- whether a pattern is a number, as a fact
abbrev pub Number : {K : Type 0} → Ghosts K → ℕ → Type 0
Number k p = T (k.number p)

module _ {K : Type 0} (k : Ghosts K) where
  pub exact_sum_append : (xs ys : List ℕ) → exact_sum k (xs ++ ys) ≡ exact_sum k xs +ℤ exact_sum k ys
  exact_sum_append [] ys = omega (arith, ints)
  exact_sum_append (x ∷ xs) ys = let e = exact_sum_append xs ys in omega (arith, ints)

  in_use_append : (xs ys : List ℕ) → in_use k (xs ++ ys) ≡ in_use k xs + in_use k ys
  in_use_append [] ys = omega arith
  in_use_append (x ∷ xs) ys = let e = in_use_append xs ys in omega arith

-- the number of remainders
pub length_remains : {K : Type 0} (k : Ghosts K) (p : Plan) (xs : List ℕ) → length (remains k p xs) + 1 ≡ dots p
length_remains k dot xs = refl
length_remains k (pair a b) xs =
    let r = rest_of k (value k a xs) (value k b (drop (dots a) xs)) in
    let l₁ = length-append (remains k a xs) (remains k b (drop (dots a) xs) ++ (r ∷ [])) in
    let l₂ = length-append (remains k b (drop (dots a) xs)) (r ∷ []) in
    omega (arith, l₁, l₂, length_remains k a xs, length_remains k b (drop (dots a) xs))

-- of two sums of two, one whose second is no greater than either of the other two has no more that are not 0
nothing : (w z x y : ℤ) → w +ℤ z ≡ x +ℤ y → nat_abs z ≤ nat_abs x → nat_abs x ≡ 0 → nat_abs y ≡ 0 → nat_abs w ≡ 0
nothing w z x y e h a b = omega (arith, ints)

still : (w z x y : ℤ) → w +ℤ z ≡ x +ℤ y → nat_abs z ≤ nat_abs x → nat_abs z ≤ nat_abs y
    → min 1 (nat_abs w) + min 1 (nat_abs z) ≤ min 1 (nat_abs x) + min 1 (nat_abs y)
still w z x y e h k =
    elim (cases_lt 0 (nat_abs x)) [
      | inl a ↦ elim (cases_lt 0 (nat_abs y)) [ inl b ↦ omega arith | inr b ↦ omega arith ]
      | inr a ↦
          elim (cases_lt 0 (nat_abs y)) [
            | inl b ↦ omega arith
            | inr b ↦ let n : nat_abs w ≡ 0 = nothing w z x y e h (omega arith) (omega arith) in omega arith
          ]
    ]

module _ {K : Type 0} (k : Ghosts K) (l : Lawful k.number k.worth k.opposite k.adder k.outcome) where
  -- the sum of two numbers is one
  sum_number : (p q : ℕ) → T (k.number p) → T (k.number q) → T (k.number (sum_of k p q))
  sum_number p q a b = (l.nearest_sum p q a b).found

  pub value_number : (p : Plan) (xs : List ℕ) → dots p ≤ length xs → Numbers k xs → T (k.number (value k p xs))
  value_number dot xs h n = n 0 0 h
  value_number (pair a b) xs h n =
      sum_number _ _ (value_number a xs (omega arith) n)
      (value_number b (drop (dots a) xs) (simp length-drop (omega arith)) (All-drop (Number k) (dots a) xs n))

  -- the two parts of a pair
  pub left_number : (a b : Plan) (xs : List ℕ) → dots a + dots b ≤ length xs → Numbers k xs → T (k.number (value k a xs))
  left_number a b xs h n = value_number a xs (omega arith) n

  pub right_number : (a b : Plan) (xs : List ℕ) → dots a + dots b ≤ length xs → Numbers k xs → T (k.number (value k b (drop (dots a) xs)))
  right_number a b xs h n = value_number b (drop (dots a) xs) (simp length-drop (omega arith)) (All-drop (Number k) (dots a) xs n)

  remains_numbers : (p : Plan) (xs : List ℕ) → dots p ≤ length xs → Numbers k xs → Numbers k (remains k p xs)
  remains_numbers dot xs h n = All-nil (Number k)
  remains_numbers (pair a b) xs h n =
      let ys = drop (dots a) xs in
      let here = l.remainder_is_number _ _ (left_number a b xs h n) (right_number a b xs h n) in
      All-append (Number k) (remains k a xs) _ (remains_numbers a xs (omega arith) n)
      (All-append (Number k) (remains k b ys) _ (remains_numbers b ys (simp length-drop (omega arith)) (All-drop (Number k) (dots a) xs n)) (All-cons (Number k) _ [] here (All-nil (Number k))))

  -- every slot is a number still
  pub passed_numbers : (p : Plan) (xs : List ℕ) → length xs ≡ dots p + 1 → Numbers k xs → Numbers k (passed k p xs)
  passed_numbers p [] h n = All-nil (Number k)
  passed_numbers p (x ∷ xs) h n =
      let lead = All-head (Number k) x xs n in
      let others = All-tail (Number k) x xs n in
      let v = value_number p xs (omega arith) others in
      let r = rest_of k x (value k p xs) in
      All-cons (Number k) (sum_of k x (value k p xs)) (r ∷ remains k p xs) (sum_number _ _ lead v)
      (All-cons (Number k) r (remains k p xs) (l.remainder_is_number _ _ lead v) (remains_numbers p xs (omega arith) others))

  -- a plan keeps the sum of its slots
  pub value_sum : (p : Plan) (xs : List ℕ) → dots p ≤ length xs → Numbers k xs
      → k.worth (value k p xs) +ℤ exact_sum k (remains k p xs) ≡ exact_sum k (take (dots p) xs)
  value_sum dot [] h n = absurd (omega arith)
  value_sum dot (x ∷ xs) h n = refl
  value_sum (pair a b) xs h n =
      let ys = drop (dots a) xs in
      let r = rest_of k (value k a xs) (value k b ys) in
      let ea = value_sum a xs (omega arith) n in
      let eb = value_sum b ys (simp length-drop (omega arith)) (All-drop (Number k) (dots a) xs n) in
      let ex = l.nothing_lost (value k a xs) (value k b ys) (left_number a b xs h n) (right_number a b xs h n) in
      let s₁ = exact_sum_append k (remains k a xs) (remains k b ys ++ (r ∷ [])) in
      let s₂ = exact_sum_append k (remains k b ys) (r ∷ []) in
      let s₃ = ap (exact_sum k) (take-add (dots a) (dots b) xs) ∙ exact_sum_append k (take (dots a) xs) (take (dots b) ys) in
      omega (arith, ints)

  -- a pass keeps the exact sum
  pub passed_sum : (p : Plan) (xs : List ℕ) → length xs ≡ dots p + 1 → Numbers k xs → exact_sum k (passed k p xs) ≡ exact_sum k xs
  passed_sum p [] h n = refl
  passed_sum p (x ∷ xs) h n =
      let others = All-tail (Number k) x xs n in
      let e = value_sum p xs (omega arith) others in
      let all = ap (exact_sum k) (take_all (dots p) xs (omega arith)) in
      let ex = l.nothing_lost x (value k p xs) (All-head (Number k) x xs n) (value_number p xs (omega arith) others) in
      omega (arith, ints)

  -- one call of the adder puts no more numbers in use
  one : (x y : ℕ) → T (k.number x) → T (k.number y)
      → min 1 (nat_abs (k.worth (sum_of k x y))) + min 1 (nat_abs (k.worth (rest_of k x y))) ≤ min 1 (nat_abs (k.worth x)) + min 1 (nat_abs (k.worth y))
  one x y s t = still (k.worth (sum_of k x y)) (k.worth (rest_of k x y)) (k.worth x) (k.worth y) (l.nothing_lost x y s t) (l.remainder_is_small x y s t).0 (l.remainder_is_small x y s t).1

  pub value_in_use : (p : Plan) (xs : List ℕ) → dots p ≤ length xs → Numbers k xs
      → min 1 (nat_abs (k.worth (value k p xs))) + in_use k (remains k p xs) ≤ in_use k (take (dots p) xs)
  value_in_use dot [] h n = absurd (omega arith)
  value_in_use dot (x ∷ xs) h n = omega arith
  value_in_use (pair a b) xs h n =
      let ys = drop (dots a) xs in
      let r = rest_of k (value k a xs) (value k b ys) in
      let ea = value_in_use a xs (omega arith) n in
      let eb = value_in_use b ys (simp length-drop (omega arith)) (All-drop (Number k) (dots a) xs n) in
      let ex = one (value k a xs) (value k b ys) (left_number a b xs h n) (right_number a b xs h n) in
      let s₁ = in_use_append k (remains k a xs) (remains k b ys ++ (r ∷ [])) in
      let s₂ = in_use_append k (remains k b ys) (r ∷ []) in
      let s₃ = ap (in_use k) (take-add (dots a) (dots b) xs) ∙ in_use_append k (take (dots a) xs) (take (dots b) ys) in
      omega arith

  -- the number of slots in use does not grow
  pub passed_in_use : (p : Plan) (xs : List ℕ) → length xs ≡ dots p + 1 → Numbers k xs → in_use k (passed k p xs) ≤ in_use k xs
  passed_in_use p [] h n = omega arith
  passed_in_use p (x ∷ xs) h n =
      let others = All-tail (Number k) x xs n in
      let e = value_in_use p xs (omega arith) others in
      let all = ap (in_use k) (take_all (dots p) xs (omega arith)) in
      let ex = one x (value k p xs) (All-head (Number k) x xs n) (value_number p xs (omega arith) others) in
      omega arith

length_passed : {K : Type 0} (k : Ghosts K) (p : Plan) (xs : List ℕ) → length xs ≡ dots p + 1 → length (passed k p xs) ≡ length xs
length_passed k p [] h = refl
length_passed k p (x ∷ xs) h = omega (arith, length_remains k p xs)

-- what is computed is what the rule says
adds : {K : Type 0} (k : Ghosts K) (p : Plan) (xs : List ℕ) → dots p ≤ length xs → Adds k p (take (dots p) xs) (value k p xs) (remains k p xs)
adds k dot [] h = absurd (omega arith)
adds k dot (x ∷ xs) h = slot x
adds k (pair a b) xs h =
    subst (λ (t : List ℕ). Adds k (pair a b) t (value k (pair a b) xs) (remains k (pair a b) xs)) (sym (take-add (dots a) (dots b) xs))
    (both a b (take (dots a) xs) (take (dots b) (drop (dots a) xs)) _ _ _ _ (adds k a xs (omega arith)) (adds k b (drop (dots a) xs) (simp length-drop (omega arith))))

by_rule : {K : Type 0} (k : Ghosts K) (p : Plan) (xs : List ℕ) → length xs ≡ dots p + 1 → ByRule k p xs (passed k p xs)
by_rule k p [] h = absurd (omega arith)
by_rule k p (x ∷ xs) h =
    record {
      lead = x;
      others = xs;
      total = value k p xs;
      remainders = remains k p xs;
      slots = refl;
      added = subst (λ (t : List ℕ). Adds k p t (value k p xs) (remains k p xs)) (take_all (dots p) xs (omega arith)) (adds k p xs (omega arith));
      left = refl;
    }

pub keeps : {K : Type 0} (k : Ghosts K) → Lawful k.number k.worth k.opposite k.adder k.outcome → PassKeeps k
keeps k l p xs h n = record {
  rule = by_rule k p xs (sym h);
  sum = passed_sum k l p xs (sym h) n;
  numbers = passed_numbers k l p xs (sym h) n;
  size = length_passed k p xs (sym h);
  fewer = passed_in_use k l p xs (sym h) n;
}
