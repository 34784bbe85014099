-- Formats of numbers: what a format holds, and which of its numbers is nearest to a whole number.
use Rattle.std.specs.Prelude.{◌≡◌, ◌≢◌, ℕ, ◌-◌, ◌*◌, ◌/◌, ◌%◌, ◌^◌, ◌≤◌, ◌<◌, min, ℤ, nat_abs, ◌-ℤ◌}

-- The numbers are ± coefficient * radix ^ scale, with a coefficient below lead * radix and a scale from 0 to `scales`.
-- So one scale's numbers end where the next one's begin: a coefficient that needs its scale is `lead` or more.
pub record Format : Type 0 where
  pub radix : ℕ
  pub lead : ℕ
  pub scales : ℕ
  pub two : 2 ≤ radix
  pub three : 3 ≤ lead * radix

-- how many coefficients there are
abbrev pub bound : Format → ℕ
bound f = f.lead * f.radix

abbrev pub unit : Format → ℕ → ℕ
unit f q = f.radix ^ q

-- the format has the magnitude m: as a coefficient at some scale
pub record Held (f : Format) (m : ℕ) : Type 0 where
  pub coefficient : ℕ
  pub scale : ℕ
  pub small : coefficient < bound f
  pub fits : scale ≤ f.scales
  pub is : m ≡ coefficient * unit f scale

-- the format has the number z
abbrev pub Holds : Format → ℤ → Type 0
Holds f z = Held f (nat_abs z)

-- the greatest number
abbrev pub top : Format → ℕ
top f = (bound f - 1) * unit f f.scales

-- how far apart two whole numbers are
abbrev pub far : ℤ → ℤ → ℕ
far a b = nat_abs (a -ℤ b)

-- q is the smallest scale that holds the magnitude m
pub record LeastScale (f : Format) (m q : ℕ) : Type 0 where
  pub held : Held f m
  pub here : held.scale ≡ q
  pub least : (h : Held f m) → q ≤ h.scale

-- the tie rule: where another number is as near to v as s is, the coefficient of s is even, at the smallest scale that holds the lesser magnitude of the two
abbrev pub EvenTie : Format → ℤ → ℤ → Type 0
EvenTie f v s =
    (w : ℤ) → Holds f w → w ≢ s → far w v ≡ far s v → (q : ℕ) → LeastScale f (min (nat_abs w) (nat_abs s)) q → nat_abs s / unit f q % 2 ≡ 0

-- s is the nearest number to v
pub record Nearest (f : Format) (v s : ℤ) : Type 0 where
  pub held : Holds f s
  pub near : (w : ℤ) → Holds f w → far s v ≤ far w v
  pub even : EvenTie f v s
