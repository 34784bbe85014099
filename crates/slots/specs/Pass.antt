-- What a pass makes of the slots, for any kind.
use Rattle.std.specs.Prelude.{◌≡◌, ℕ, ◌+◌, ◌≤◌, min, T, All, List, [], ◌∷◌, ◌++◌, length, drop, replicate, ℤ, pos, ◌+ℤ◌, slice_index, unsigned_abs}
use Rattle.kinds.specs.declared.kind.Kind.{Ghosts}
use Rattle.plans.specs.Plan.{Plan, dot, pair, text, dots}

module _ {K : Type 0} (k : Ghosts K) where
  -- the two answers of the adder
  abbrev pub sum_of : ℕ → ℕ → ℕ
  sum_of p q = (k.adder p q).0

  abbrev pub rest_of : ℕ → ℕ → ℕ
  rest_of p q = (k.adder p q).1

  -- a dot stands for its slot, and a pair for the sum of its two parts
  abbrev pub value : Plan → List ℕ → ℕ
  value dot xs = slice_index xs 0
  value (pair a b) xs = sum_of (value a xs) (value b (drop (dots a) xs))

  -- what remains of the pairs, in the order of their closing brackets
  abbrev pub remains : Plan → List ℕ → List ℕ
  remains dot xs = []
  remains (pair a b) xs = remains a xs ++ (remains b (drop (dots a) xs) ++ (rest_of (value a xs) (value b (drop (dots a) xs)) ∷ []))

  -- the lead and the value of the plan through the adder, and behind them what remains of the pairs
  abbrev pub passed : Plan → List ℕ → List ℕ
  passed p [] = []
  passed p (lead ∷ xs) = sum_of lead (value p xs) ∷ (rest_of lead (value p xs) ∷ remains p xs)

  -- `after` is what a pass by the plan that is written makes of `before`
  pub record Passed (plan before after : List ℕ) : Type 0 where
    pub by : Plan
    pub written : text by ≡ plan
    pub counted : dots by + 1 ≡ length before
    pub made : after ≡ passed by before

  -- adder by adder: a plan over its slots stands for a value, and its pairs leave remainders, in the order of their closing brackets
  pub data Adds : Plan → List ℕ → ℕ → List ℕ → Type 0 where
    slot : (x : ℕ) → Adds dot (x ∷ []) x []
    both : (a b : Plan) (xs ys : List ℕ) (u v : ℕ) (rs ts : List ℕ) → Adds a xs u rs → Adds b ys v ts
        → Adds (pair a b) (xs ++ ys) (sum_of u v) (rs ++ (ts ++ (rest_of u v ∷ [])))

  -- the rule of a pass: what the plan stands for goes to the lead through the last adder, its remainder to the rest, and the pairs' remainders behind it
  pub record ByRule (p : Plan) (before after : List ℕ) : Type 0 where
    pub lead : ℕ
    pub others : List ℕ
    pub total : ℕ
    pub remainders : List ℕ
    pub slots : before ≡ lead ∷ others
    pub added : Adds p others total remainders
    pub left : after ≡ sum_of lead total ∷ (rest_of lead total ∷ remainders)

  -- every slot is a number
  abbrev pub Numbers : List ℕ → Type 0
  Numbers xs = All (λ p. T (k.number p)) xs

  abbrev pub exact_sum : List ℕ → ℤ
  exact_sum [] = pos 0
  exact_sum (x ∷ xs) = k.worth x +ℤ exact_sum xs

  -- how many have a worth other than 0
  abbrev pub in_use : List ℕ → ℕ
  in_use [] = 0
  in_use (x ∷ xs) = min 1 (unsigned_abs (k.worth x)) + in_use xs

  -- what every pass keeps, whatever the plan
  pub record Keeps (p : Plan) (xs : List ℕ) : Type 0 where
    pub rule : ByRule p xs (passed p xs)
    pub sum : exact_sum (passed p xs) ≡ exact_sum xs
    pub numbers : Numbers (passed p xs)
    pub size : length (passed p xs) ≡ length xs
    pub fewer : in_use (passed p xs) ≤ in_use xs

  abbrev pub PassKeeps : Type 0
  PassKeeps = (p : Plan) (xs : List ℕ) → dots p + 1 ≡ length xs → Numbers xs → Keeps p xs

-- as many words as there are slots are 0, and further words unchanged
abbrev pub Cleared : ℕ → List ℕ → List ℕ → Type 0
Cleared n before after = after ≡ replicate n 0 ++ drop n before
