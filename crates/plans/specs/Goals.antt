-- What is still to come of a plan of which a start has been read, and what the reader of a part answers.
use Rattle.std.specs.Prelude.{◌≡◌, ℕ, suc, ◌+◌, ◌<◌, ◌≤◌, ◌⊎◌, List, [], ◌∷◌, ◌++◌, length, Ok, Err, codes, Result}
use Rattle.std.specs.List.{between}
use Rattle.plans.specs.declared.reads.Stand.{Stand}
use Rattle.plans.specs.Plan.{Plan, text, dots, IsPlan, Longest}

-- a plan or a closing bracket
pub data Goal : Type 0 where
  plan : Goal
  close : Goal

-- the goals are written as t, with k dots
abbrev pub Written : List Goal → List ℕ → ℕ → Type 0
Written [] t k = (t ≡ []) × (k ≡ 0)
Written (close ∷ g) t k = (u : List ℕ) × ((t ≡ codes ")" ++ u) × Written g u k)
Written (plan ∷ g) t k = (p : Plan) × ((u : List ℕ) × ((j : ℕ) × ((t ≡ text p ++ u) × (k ≡ dots p + j) × Written g u j)))

-- how many of the goals are plans
abbrev pub plans : List Goal → ℕ
plans [] = 0
plans (close ∷ g) = plans g
plans (plan ∷ g) = suc (plans g)

-- m plans can be written with k dots
abbrev pub Ready : ℕ → ℕ → Type 0
Ready m k = ((m ≡ 0) × (k ≡ 0)) ⊎ ((0 < m) × (m ≤ k))

-- u is read of the goals g with k dots, and the goals h with j dots are left
abbrev pub Reads : List Goal → ℕ → List ℕ → List Goal → ℕ → Type 0
Reads g k u h j = (t : List ℕ) → (Written g (u ++ t) k → Written h t j) × (Written h t j → Written g (u ++ t) k)

-- u begins what the goals are written as
abbrev pub Starts : List Goal → ℕ → List ℕ → Type 0
Starts g k u = (t : List ℕ) × Written g (u ++ t) k

-- read from `at` on, s starts the goals up to e and no further
pub record Stops (s : List ℕ) (at : ℕ) (g : List Goal) (k e : ℕ) : Type 0 where
  pub starts : Starts g k (between at e s)
  pub no_more : e < length s → Starts g k (between at (e + 1) s) → ⊥
  pub no_whole : e ≡ length s → Written g (between at e s) k → ⊥

-- a part was read from `at` on, with k dots to come and m more parts owed
pub record PartRead (s : List ℕ) (at k m : ℕ) (to : Stand) : Type 0 where
  pub onward : at < to.at
  pub within : to.at ≤ length s
  pub fewer : to.left ≤ k
  pub ready : Ready m to.left
  pub reads : (g : List Goal) → plans g ≡ m → Reads (plan ∷ g) k (between at to.at s) g to.left

-- or none could be, and e is where the text stops being one
pub record PartStopped (s : List ℕ) (at k m e : ℕ) : Type 0 where
  pub onward : at ≤ e
  pub within : e ≤ length s
  pub stops : (g : List Goal) → plans g ≡ m → Stops s at (plan ∷ g) k e

abbrev pub PartAnswer : List ℕ → ℕ → ℕ → ℕ → Result Stand ℕ → Type 0
PartAnswer s at k m (Ok to) = PartRead s at k m to
PartAnswer s at k m (Err e) = PartStopped s at k m e

-- what is answered of a whole text, which has the bytes of a plan of n dots
abbrev pub WholeAnswer : ℕ → List ℕ → Result (Unit {0}) ℕ → Type 0
WholeAnswer n s (Ok u) = IsPlan n s
WholeAnswer n s (Err k) = (IsPlan n s → ⊥) × Longest n s k
