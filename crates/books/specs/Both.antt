-- Two of a thing, one for each side.
use Rattle.books.specs.declared.visit.Side.{Side}
use Rattle.books.specs.declared.visit.Side.TheVariants.{Left, Right}

pub record Both (X : Type 0) : Type 0 where
  pub left : X
  pub right : X

abbrev pub at : {X : Type 0} → Side → Both X → X
at Left b = b.left
at Right b = b.right

-- one side is changed, and the other kept
abbrev pub on_side : {X : Type 0} → Side → (X → X) → Both X → Both X
on_side Left f b = record { left = f b.left; right = b.right }
on_side Right f b = record { left = b.left; right = f b.right }
