-- What is still to come of a pass of which a start has been made.
use Rattle.std.proofs.Common.{◌≡◌, ℕ, ◌+◌, ◌<◌, ◌≤◌, T, List, [], ◌∷◌, ◌++◌, length, get_or, drop, sym, refl, ap, ◌∙◌, subst, subst₂, append_assoc, append-nil, arith, length-drop, drop-drop}
use Rattle.std.proofs.lemmas.List.Elements.{All-drop}
use Rattle.numbers.specs.Lawful.{Lawful}
use Rattle.kinds.specs.declared.kind.Kind.{Ghosts}
use Rattle.plans.specs.Plan.{Plan, dot, pair, text, dots}
use Rattle.slots.specs.Pass.{sum_of, rest_of, value, remains, Numbers}
use Rattle.slots.proofs.Keeps.{left_number, right_number, Number}

-- a part of the plan, or a closing bracket
pub data Todo : Type 0 where
  part : Plan → Todo
  close : Todo

abbrev pub written : List Todo → List ℕ
written [] = []
written (part p ∷ g) = text p ++ written g
written (close ∷ g) = 41 ∷ written g

-- From the values st, the slots xs that are not read yet and the remainders out, what is to come ends with the value v and the remainders rs.
abbrev pub Ends : {K : Type 0} → Ghosts K → ℕ → List ℕ → List Todo → List ℕ → List ℕ → List ℕ → Type 0
Ends k v rs [] st xs out = (st ≡ v ∷ []) × (out ≡ rs)
Ends k v rs (part p ∷ g) st xs out =
    (dots p ≤ length xs) × Numbers k xs
    × Ends k v rs g (st ++ (value k p xs ∷ [])) (drop (dots p) xs) (out ++ remains k p xs)
Ends k v rs (close ∷ g) st xs out =
    (t : List ℕ) × ((a : ℕ) × ((b : ℕ)
    × ((st ≡ t ++ (a ∷ (b ∷ []))) × T (k.number a) × T (k.number b)
    × Ends k v rs g (t ++ (sum_of k a b ∷ [])) xs (out ++ (rest_of k a b ∷ [])))))

-- what one byte does to it
abbrev pub After : {K : Type 0} → Ghosts K → ℕ → List ℕ → List ℕ → List ℕ → List ℕ → List ℕ → Type 0
After k v rs t st xs out = (g : List Todo) × ((written g ≡ t) × Ends k v rs g st xs out)

-- which bytes a list of things to do can begin with
pub data Front (g : List Todo) (b : ℕ) (t : List ℕ) : Type 0 where
  at_dot : (h : List Todo) → g ≡ part dot ∷ h → b ≡ 46 → written h ≡ t → Front g b t
  at_open : (p q : Plan) (h : List Todo) → g ≡ part (pair p q) ∷ h → b ≡ 40 → written (part p ∷ (part q ∷ (close ∷ h))) ≡ t → Front g b t
  at_close : (h : List Todo) → g ≡ close ∷ h → b ≡ 41 → written h ≡ t → Front g b t

tail_of : (x y : ℕ) (s t : List ℕ) → x ∷ s ≡ y ∷ t → s ≡ t
tail_of x y s t e = cc

head_of : (x y : ℕ) (s t : List ℕ) → x ∷ s ≡ y ∷ t → x ≡ y
head_of x y s t e = cc

pub front : (g : List Todo) (b : ℕ) (t : List ℕ) → written g ≡ b ∷ t → Front g b t
front [] b t e = absurd (let z : ◌≡◌ {A = ℕ} 0 1 = cc in omega arith)
front (close ∷ g) b t e = at_close g refl (sym (head_of 41 b (written g) t e)) (tail_of 41 b (written g) t e)
front (part dot ∷ g) b t e = at_dot g refl (sym (head_of 46 b (written g) t e)) (tail_of 46 b (written g) t e)
front (part (pair p q) ∷ g) b t e =
    at_open p q g refl (sym (head_of 40 b _ t e))
    (sym (append_assoc (text p) (text q ++ (41 ∷ [])) (written g) ∙ ap (λ x. text p ++ x) (append_assoc (text q) (41 ∷ []) (written g)))
    ∙ tail_of 40 b _ t e)

text_some : (p : Plan) (t : List ℕ) → text p ++ t ≡ [] → ⊥
text_some dot t e = let z : ◌≡◌ {A = ℕ} 0 1 = cc in omega arith
text_some (pair a b) t e = let z : ◌≡◌ {A = ℕ} 0 1 = cc in omega arith

pub none_left : (g : List Todo) → written g ≡ [] → g ≡ []
none_left [] e = refl
none_left (close ∷ g) e = absurd (let z : ◌≡◌ {A = ℕ} 0 1 = cc in omega arith)
none_left (part p ∷ g) e = absurd (text_some p (written g) e)

module _ {K : Type 0} (k : Ghosts K) (l : Lawful k.number k.worth k.opposite k.adder k.outcome) (v : ℕ) (rs : List ℕ) where
  abbrev E : List Todo → List ℕ → List ℕ → List ℕ → Type 0
  E = Ends k v rs

  abbrev A : List ℕ → List ℕ → List ℕ → List ℕ → Type 0
  A = After k v rs

  opened : (a b : Plan) (g : List Todo) (st xs out : List ℕ) → E (part (pair a b) ∷ g) st xs out → E (part a ∷ (part b ∷ (close ∷ g))) st xs out
  opened a b g st xs out (h, n, e) =
      let ys = drop (dots a) xs in
      let x = value k a xs in
      let y = value k b ys in
      let out₂ = (out ++ remains k a xs) ++ remains k b ys in
      let i : drop (dots a + dots b) xs ≡ drop (dots b) ys = sym (drop-drop (dots b) (dots a) xs) in
      let j : out ++ remains k (pair a b) xs ≡ out₂ ++ (rest_of k x y ∷ []) = simp append_assoc in
      let both : (st ++ (x ∷ [])) ++ (y ∷ []) ≡ st ++ (x ∷ (y ∷ [])) = append_assoc st (x ∷ []) (y ∷ []) in
      let fin = subst₂ (λ (zs o : List ℕ). E g (st ++ (sum_of k x y ∷ [])) zs o) i j e in (
        omega arith,
        n,
        (
          simp length-drop (omega arith),
          All-drop (Number k) (dots a) xs n,
          (st, (x, (y, (both, left_number k l a b xs h n, right_number k l a b xs h n, fin)))),
        ),
      )

  pub start : (p : Plan) (xs : List ℕ) → dots p ≤ length xs → Numbers k xs → v ≡ value k p xs → rs ≡ remains k p xs
      → A (text p) [] xs []
  start p xs h n e f = (part p ∷ [], (append-nil (text p), (h, n, (ap (λ x. x ∷ []) (sym e), sym f))))

  pub step_open : (t st xs out : List ℕ) → A (40 ∷ t) st xs out → A t st xs out
  step_open t st xs out (g, (w, e)) =
      elim (front g 40 t w) [
        | at_dot h i b r ↦ absurd (omega arith)
        | at_close h i b r ↦ absurd (omega arith)
        | at_open p q h i b r ↦ (part p ∷ (part q ∷ (close ∷ h)), (r, opened p q h st xs out (subst (λ x. E x st xs out) i e)))
      ]

  -- a dot: there is a slot to read, and its pattern is a number
  pub step_dot : (t st xs out : List ℕ) → A (46 ∷ t) st xs out → (0 < length xs) × A t (st ++ (get_or xs 0 0 ∷ [])) (drop 1 xs) out
  step_dot t st xs out (g, (w, e)) =
      elim (front g 46 t w) [
        | at_dot h i b r ↦
            let f : E (part dot ∷ h) st xs out = subst (λ x. E x st xs out) i e in
            (f.0, (h, (r, subst (λ o. E h (st ++ (get_or xs 0 0 ∷ [])) (drop 1 xs) o) (append-nil out) f.2)))
        | at_close h i b r ↦ absurd (omega arith)
        | at_open p q h i b r ↦ absurd (omega arith)
      ]

  -- a closing bracket: there are two values, both numbers
  pub step_close : (t st xs out : List ℕ) → A (41 ∷ t) st xs out
      → (s : List ℕ) × ((a : ℕ) × ((b : ℕ)
      × ((st ≡ s ++ (a ∷ (b ∷ []))) × T (k.number a) × T (k.number b) × A t (s ++ (sum_of k a b ∷ [])) xs (out ++ (rest_of k a b ∷ [])))))
  step_close t st xs out (g, (w, e)) =
      elim (front g 41 t w) [
        | at_dot h i b r ↦ absurd (omega arith)
        | at_close h i b r ↦
            let f : E (close ∷ h) st xs out = subst (λ x. E x st xs out) i e in
            (f.0, (f.1.0, (f.1.1.0, (f.1.1.1.0, f.1.1.1.1, f.1.1.1.2, (h, (r, f.1.1.1.3))))))
        | at_open p q h i b r ↦ absurd (omega arith)
      ]

  pub step_other : (b : ℕ) (t st xs out : List ℕ) → A (b ∷ t) st xs out → (b ≡ 46 → ⊥) → (b ≡ 40 → ⊥) → (b ≡ 41 → ⊥) → ⊥
  step_other b t st xs out (g, (w, e)) x y z =
      elim (front g b t w) [ at_dot h i c r ↦ x c | at_close h i c r ↦ z c | at_open p q h i c r ↦ y c ]

  pub finish : (st xs out : List ℕ) → A [] st xs out → (st ≡ v ∷ []) × (out ≡ rs)
  finish st xs out (g, (w, e)) = subst (λ x. E x st xs out) (none_left g w) e
