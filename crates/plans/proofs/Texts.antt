-- The text of a plan: how long it is, and that no other plan has it.
use Rattle.std.proofs.Common.{◌≡◌, ℕ, List, [], ◌∷◌, ◌++◌, sym, refl, ap, ◌∙◌, ap₂, append_assoc, append-nil, arith, length-append}
use Rattle.plans.specs.Plan.{Plan, dot, pair, text, OnePlan, PlanBytes}

pub text_length : PlanBytes
text_length dot = refl
text_length (pair a b) =
    let la = text_length a in
    let lb = text_length b in
    omega (arith, length-append (text a) (text b ++ (41 ∷ [])), length-append (text b) (41 ∷ []))

-- the two parts of a pair, and what stands behind them
pub parts_then : (a b : Plan) (s : List ℕ) → (text a ++ (text b ++ (41 ∷ []))) ++ s ≡ text a ++ (text b ++ (41 ∷ s))
parts_then a b s = append_assoc (text a) (text b ++ (41 ∷ [])) s ∙ ap (λ x. text a ++ x) (append_assoc (text b) (41 ∷ []) s)

one_front : (p q : Plan) (s t : List ℕ) → text p ++ s ≡ text q ++ t → (p ≡ q) × (s ≡ t)
one_front dot dot s t e = (refl, cc)
one_front dot (pair c d) s t e = absurd (let z : ◌≡◌ {A = ℕ} 46 40 = cc in omega arith)
one_front (pair a b) dot s t e = absurd (let z : ◌≡◌ {A = ℕ} 40 46 = cc in omega arith)
one_front (pair a b) (pair c d) s t e =
    let tails : (text a ++ (text b ++ (41 ∷ []))) ++ s ≡ (text c ++ (text d ++ (41 ∷ []))) ++ t = cc in
    let x = one_front a c _ _ (sym (parts_then a b s) ∙ tails ∙ parts_then c d t) in
    let y = one_front b d _ _ x.1 in
    (ap₂ pair x.0 y.0, cc y.1)

pub one_plan : OnePlan
one_plan p q e = (one_front p q [] [] (append-nil (text p) ∙ e ∙ sym (append-nil (text q)))).0
