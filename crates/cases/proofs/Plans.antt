-- The text (.)(..) begins a plan of three dots for two bytes and no further.
use Rattle.std.proofs.Common.{◌≡◌, ℕ, List, [], ◌∷◌, ◌++◌, codes, refl, inl, inr, arith, lit≤}
use Rattle.std.proofs.lemmas.Bool.{cases_lt}
use Rattle.refusals.specs.declared.Refusal.TheVariants.{NotAPlan}
use Rattle.plans.specs.Plan.{Plan, dot, pair, text, NoPlan}
use Rattle.plans.proofs.Whole.{shorter}

-- no plan begins with a closing bracket
no_close : (p : Plan) (s t : List ℕ) → text p ++ s ≡ 41 ∷ t → ⊥
no_close dot s t e = let z : ◌≡◌ {A = ℕ} 46 41 = cc in omega arith
no_close (pair a b) s t e = let z : ◌≡◌ {A = ℕ} 40 41 = cc in omega arith

-- nor with a bracket, a dot and a closing bracket
no_one : (p : Plan) (t : List ℕ) → text p ≡ 40 ∷ (46 ∷ (41 ∷ t)) → ⊥
no_one dot t e = let z : ◌≡◌ {A = ℕ} 46 40 = cc in omega arith
no_one (pair dot b) t e = let f : text b ++ (41 ∷ []) ≡ 41 ∷ t = cc in no_close b (41 ∷ []) t f
no_one (pair (pair a d) b) t e = let z : ◌≡◌ {A = ℕ} 40 46 = cc in omega arith

pub no_plan_lem : NoPlan 3 (codes "(.)(..)") (NotAPlan 2)
no_plan_lem = (
  refl,
  λ i. no_one i.plan _ i.written,
  record {
    within = lit≤ tt;
    begins = record { plan = pair dot (pair dot dot); rest = codes "(..))"; written = refl; counted = refl };
    longest =
        λ j h b.
        elim (cases_lt 2 j) [
          | inr a ↦ a
          | inl a ↦ let c = shorter 3 (codes "(.)(..)") 3 j a b in absurd (no_one c.plan _ c.written)
        ];
  },
)
