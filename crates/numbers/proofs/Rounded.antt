-- A number divided and rounded to the nearest whole quotient, a tie to the even one: no other multiple of the divisor lies nearer.
use mathlib.Core.Path.{◌≡◌, refl, sym, ap, ◌∙◌, subst}
use mathlib.Core.Logic.{◌⊎◌, ◌≢◌, inl, inr}
use mathlib.Core.Bool.{not}
use Prim.Native.Nat.{ℕ, suc, ◌+◌, ◌-◌, ◌*◌, ◌/◌, ◌%◌, ◌≤◌, ◌<◌, min, compare, Ordering}
use native.Mathlib.Nat.{le_trans, le_of_eq, div-add-mod', mod-lt, mul-le-mul_right, lt_of_not-le, suc-mul}
use native.Mathlib.Decide.{dec_le}
use native.Mathlib.Omega.{arith}
use lib.Dec.{T, is_le, compare_is_eq, eqb, leb→le, nleb→lt, eqb→eq, eqb_refl}
use lib.Arith.{lt_of_le-ne}
use lib.Ieee.{nearest as pick}
use lib.Ieee.Nearest.{closest}

-- how far apart two magnitudes are
abbrev pub dist : ℕ → ℕ → ℕ
dist a b = (a - b) + (b - a)

-- ---- what `compare` says
abbrev pub Cmp : Ordering → ℕ → ℕ → Type 0
Cmp Ordering.lt a b = a < b
Cmp Ordering.eq a b = a ≡ b
Cmp Ordering.gt a b = b < a

pub cmp : (a b : ℕ) → Cmp (compare a b) a b
cmp a b = go (compare a b) (leb→le a b) (nleb→lt a b) (eqb→eq a b) (λ (e : a ≡ b). subst (λ (x : ℕ). T (eqb a x)) e (eqb_refl a))
  where
    go : (o : Ordering) → (T (is_le o) → a ≤ b) → (T (not (is_le o)) → b < a) → (T (compare_is_eq o) → a ≡ b) → (a ≡ b → T (compare_is_eq o)) → Cmp o a b
    go Ordering.lt h k e n = lt_of_le-ne (h tt) n
    go Ordering.eq h k e n = e tt
    go Ordering.gt h k e n = k tt

-- ---- the two neighbours
pub tie_is : (c : ℕ) → (c + c % 2 ≡ c) ⊎ (c + c % 2 ≡ suc c)
tie_is c = elim (dec_le (c % 2) 0) [ yes h ↦ inl (omega arith) | no h ↦ inr (omega arith) ]

pub side : (c k u : ℕ) → (k * u ≤ c * u) ⊎ (c * u + u ≤ k * u)
side c k u =
    elim (dec_le k c) [
      | yes h ↦ inl (mul-le-mul_right u h)
      | no h ↦ inr (le_trans (le_of_eq (sym (suc-mul c u))) (mul-le-mul_right u (lt_of_not-le h)))
    ]

-- x is the multiple below or the one above, and m is not past the middle between them on the other side
down : (m r u C K : ℕ) → m ≡ C + r → r < u → (K ≤ C) ⊎ (C + u ≤ K) → r * 2 ≤ u → dist C m ≤ dist K m
down m r u C K e l (inl h) t = omega arith
down m r u C K e l (inr h) t = omega arith

up : (m r u C K : ℕ) → m ≡ C + r → r < u → (K ≤ C) ⊎ (C + u ≤ K) → u ≤ r * 2 → dist (C + u) m ≤ dist K m
up m r u C K e l (inl h) t = omega arith
up m r u C K e l (inr h) t = omega arith

pick_near : (o : Ordering) (c r u k m : ℕ) → Cmp o (r * 2) u → m ≡ c * u + r → r < u → dist (pick c o * u) m ≤ dist (k * u) m
pick_near Ordering.lt c r u k m x e l = down m r u (c * u) (k * u) e l (side c k u) (omega arith)
pick_near Ordering.gt c r u k m x e l =
    subst (λ (z : ℕ). dist z m ≤ dist (k * u) m) (sym (suc-mul c u)) (up m r u (c * u) (k * u) e l (side c k u) (omega arith))
pick_near Ordering.eq c r u k m x e l =
    elim (tie_is c) [
      | inl p ↦ subst (λ (z : ℕ). dist (z * u) m ≤ dist (k * u) m) (sym p) (down m r u (c * u) (k * u) e l (side c k u) (le_of_eq x))
      | inr p ↦
          subst (λ (z : ℕ). dist z m ≤ dist (k * u) m) (sym (ap (λ (z : ℕ). z * u) p ∙ suc-mul c u))
          (up m r u (c * u) (k * u) e l (side c k u) (le_of_eq (sym x)))
    ]

pub closest_near : (m k : ℕ) {u : ℕ} → 0 < u → dist (closest m u * u) m ≤ dist (k * u) m
closest_near m k {u} h = pick_near (compare (m % u * 2) u) (m / u) (m % u) u k m (cmp (m % u * 2) u) (sym (div-add-mod' m u)) (mod-lt m h)

-- it is the whole quotient, or one more
pub closest_is : (m u : ℕ) → (closest m u ≡ m / u) ⊎ (closest m u ≡ suc (m / u))
closest_is m u = go (compare (m % u * 2) u) (m / u)
  where
    go : (o : Ordering) (c : ℕ) → (pick c o ≡ c) ⊎ (pick c o ≡ suc c)
    go Ordering.lt c = inl refl
    go Ordering.eq c = tie_is c
    go Ordering.gt c = inr refl

-- ---- a tie
-- where another multiple is as near, the lower of the two is the whole quotient's, the two are neighbours, and the one chosen is even
pick_tie : (o : Ordering) (c r u k m : ℕ) → Cmp o (r * 2) u → m ≡ c * u + r → r < u → k * u ≢ pick c o * u → dist (k * u) m ≡ dist (pick c o * u) m
    → (pick c o % 2 ≡ 0) × (min (k * u) (pick c o * u) ≡ c * u) × (k * u + pick c o * u ≡ c * u + suc c * u)
pick_tie Ordering.lt c r u k m x e l n d = absurd (elim (side c k u) [ inl h ↦ omega arith | inr h ↦ omega arith ])
pick_tie Ordering.gt c r u k m x e l n d =
    let g : suc c * u ≡ c * u + u = suc-mul c u in
    absurd (elim (side c k u) [ inl h ↦ omega arith | inr h ↦ omega arith ])
pick_tie Ordering.eq c r u k m x e l n d =
    let a : suc c * u ≡ c * u + u = suc-mul c u in
    elim (tie_is c) [
      | inl p ↦
          let g : (c + c % 2) * u ≡ c * u = ap (λ (z : ℕ). z * u) p in
          elim (side c k u) [ inl h ↦ (omega arith, omega arith, omega arith) | inr h ↦ (omega arith, omega arith, omega arith) ]
      | inr p ↦
          let g : (c + c % 2) * u ≡ suc c * u = ap (λ (z : ℕ). z * u) p in
          elim (side c k u) [ inl h ↦ (omega arith, omega arith, omega arith) | inr h ↦ (omega arith, omega arith, omega arith) ]
    ]

pub closest_tie : (m k : ℕ) {u : ℕ} → 0 < u → k * u ≢ closest m u * u → dist (k * u) m ≡ dist (closest m u * u) m
    → (closest m u % 2 ≡ 0) × (min (k * u) (closest m u * u) ≡ m / u * u) × (k * u + closest m u * u ≡ m / u * u + suc (m / u) * u)
closest_tie m k {u} h = pick_tie (compare (m % u * 2) u) (m / u) (m % u) u k m (cmp (m % u * 2) u) (sym (div-add-mod' m u)) (mod-lt m h)
