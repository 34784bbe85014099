-- What a byte does to the goals, and which goals can be met with so many dots.
use Rattle.std.proofs.Common.{◌≡◌, ℕ, zero, suc, ◌+◌, ◌<◌, ◌≤◌, ◌⊎◌, List, [], ◌∷◌, ◌++◌, length, sym, refl, ap, ◌∙◌, subst, inl, inr, add_assoc, arith}
use Rattle.std.proofs.lemmas.Bool.{cases_lt}
use Rattle.plans.specs.Plan.{Plan, dot, pair, text, dots}
use Rattle.plans.specs.Goals.{Goal, plan, close, Written, plans, Ready}
use Rattle.plans.proofs.Texts.{parts_then}

-- what is left of the goals behind a dot and behind each bracket
pub dot_in : (g : List Goal) (t : List ℕ) (k : ℕ) → Written (plan ∷ g) (46 ∷ t) k → (j : ℕ) × ((k ≡ 1 + j) × Written g t j)
dot_in g t k (dot, (u, (j, (e, f, w)))) =
    let same : u ≡ t = cc in
    (j, (f, subst (λ v. Written g v j) same w))
dot_in g t k (pair a b, (u, (j, (e, f, w)))) = let z : ◌≡◌ {A = ℕ} 46 40 = cc in absurd (omega arith)

pub open_in : (g : List Goal) (t : List ℕ) (k : ℕ) → Written (plan ∷ g) (40 ∷ t) k → Written (plan ∷ (plan ∷ (close ∷ g))) t k
open_in g t k (dot, (u, (j, (e, f, w)))) = let z : ◌≡◌ {A = ℕ} 40 46 = cc in absurd (omega arith)
open_in g t k (pair a b, (u, (j, (e, f, w)))) =
    let tail : t ≡ (text a ++ (text b ++ (41 ∷ []))) ++ u = cc in
    (a, (text b ++ (41 ∷ u), (dots b + j, (tail ∙ parts_then a b u, f ∙ add_assoc (dots a) (dots b) j, (b, (41 ∷ u, (j, (refl, refl, (u, (refl, w))))))))))

pub open_out : (g : List Goal) (t : List ℕ) (k : ℕ) → Written (plan ∷ (plan ∷ (close ∷ g))) t k → Written (plan ∷ g) (40 ∷ t) k
open_out g t k (a, (u₁, (j₁, (e₁, f₁, (b, (u₂, (j₂, (e₂, f₂, (u, (e₃, w)))))))))) =
    let tail : t ≡ text a ++ (text b ++ (41 ∷ u)) = e₁ ∙ ap (λ v. text a ++ v) (e₂ ∙ ap (λ v. text b ++ v) e₃) in
    (pair a b, (u, (j₂, (ap (λ v. 40 ∷ v) (tail ∙ sym (parts_then a b u)), f₁ ∙ ap (λ m. dots a + m) f₂ ∙ sym (add_assoc (dots a) (dots b) j₂), w))))

pub close_in : (g : List Goal) (t : List ℕ) (k : ℕ) → Written (close ∷ g) (41 ∷ t) k → Written g t k
close_in g t k (u, (e, w)) = let same : u ≡ t = cc in subst (λ v. Written g v k) same w

-- a plan begins with a dot or an opening bracket
pub plan_first : (g : List Goal) (b : ℕ) (t : List ℕ) (k : ℕ) → Written (plan ∷ g) (b ∷ t) k → (b ≡ 46) ⊎ (b ≡ 40)
plan_first g b t k (dot, (u, (j, (e, f, w)))) = inl (cc)
plan_first g b t k (pair x y, (u, (j, (e, f, w)))) = inr (cc)

pub close_first : (g : List Goal) (b : ℕ) (t : List ℕ) (k : ℕ) → Written (close ∷ g) (b ∷ t) k → b ≡ 41
close_first g b t k (u, (e, w)) = cc

-- no goal is written as nothing
pub plan_some : (g : List Goal) (k : ℕ) → Written (plan ∷ g) [] k → ⊥
plan_some g k (dot, (u, (j, (e, f, w)))) = let z : 0 ≡ suc (length u) = ap length e in omega arith
plan_some g k (pair a b, (u, (j, (e, f, w)))) = let z : 0 ≡ suc (length ((text a ++ (text b ++ (41 ∷ []))) ++ u)) = ap length e in omega arith

pub close_some : (g : List Goal) (k : ℕ) → Written (close ∷ g) [] k → ⊥
close_some g k (u, (e, w)) = let z : 0 ≡ suc (length u) = ap length e in omega arith

dots_some : (p : Plan) → 0 < dots p
dots_some dot = omega arith
dots_some (pair a b) = omega (arith, dots_some a, dots_some b)

-- some plan of so many dots
comb : (k : ℕ) → (p : Plan) × (dots p ≡ suc k)
comb zero = (dot, refl)
comb (suc k) = let r = comb k in (pair dot r.0, omega (arith, r.1))

-- goals that are written have dots for their plans
pub ready : (g : List Goal) (t : List ℕ) (k : ℕ) → Written g t k → Ready (plans g) k
ready [] t k (e, f) = inl (refl, f)
ready (close ∷ g) t k (u, (e, w)) = ready g u k w
ready (plan ∷ g) t k (p, (u, (j, (e, f, w)))) =
    let some = dots_some p in
    elim (ready g u j w) [
      | inl h ↦ inr (omega arith, omega (arith, some, h.0, h.1, f))
      | inr h ↦ inr (omega arith, omega (arith, some, h.1, f))
    ]

-- and where there are dots, the goals can be written
pub fill : (g : List Goal) (k : ℕ) → Ready (plans g) k → (t : List ℕ) × Written g t k
fill [] k h = ([], (refl, elim h [ inl z ↦ z.1 | inr z ↦ absurd (omega arith) ]))
fill (close ∷ g) k h = let r = fill g k h in (41 ∷ r.0, (r.0, (refl, r.1)))
fill (plan ∷ g) zero h = absurd (elim h [ inl z ↦ omega arith | inr z ↦ omega arith ])
fill (plan ∷ g) (suc k) h =
    let le : plans g ≤ k = elim h [ inl z ↦ absurd (omega arith) | inr z ↦ omega arith ] in
    elim (cases_lt 0 (plans g)) [
      | inl some ↦
          let r = fill g k (inr (some, le)) in
          (46 ∷ r.0, (dot, (r.0, (k, (refl, omega arith, r.1)))))
      | inr none ↦
          let c = comb k in
          let r = fill g 0 (inl (omega arith, refl)) in
          (text c.0 ++ r.0, (c.0, (r.0, (0, (refl, omega (arith, c.1), r.1)))))
    ]
