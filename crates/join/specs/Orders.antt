-- Every bracketing and every order of some items.
use Rattle.std.specs.Prelude.{◌≡◌, List, [], ◌∷◌, ◌++◌}
use mathlib.Core.List.{Permᴰ}

-- items in brackets; an empty bracket stands for nothing
pub data Bracketed (X : Type 0) : Type 0 where
  empty : Bracketed X
  item : X → Bracketed X
  pair : Bracketed X → Bracketed X → Bracketed X

-- its items from the left to the right
abbrev pub items_of : {X : Type 0} → Bracketed X → List X
items_of empty = []
items_of (item x) = x ∷ []
items_of (pair s t) = items_of s ++ items_of t

-- what it comes to when each bracket joins its two parts
abbrev pub joined_by : {X : Type 0} → (X → X → X) → X → Bracketed X → X
joined_by join neutral empty = neutral
joined_by join neutral (item x) = x
joined_by join neutral (pair s t) = join (joined_by join neutral s) (joined_by join neutral t)

-- the same items in another order
abbrev pub Reordered : {X : Type 0} → List X → List X → Type 0
Reordered xs ys = Permᴰ xs ys

-- every bracketing of every order of the items comes to r
abbrev pub EveryWay : {X : Type 0} → (X → X → X) → X → List X → X → Type 0
EveryWay join neutral xs r = (t : Bracketed _) → Reordered (items_of t) xs → joined_by join neutral t ≡ r
