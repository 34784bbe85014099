-- The scale that `scale_of` finds, and what can be held at it.
use mathlib.Core.Path.{◌≡◌, refl, sym, ap, ◌∙◌, subst}
use mathlib.Core.Logic.{◌⊎◌, inl, inr}
use mathlib.Core.Bool.{Bool, true, false, not}
use Prim.Native.Nat.{ℕ, zero, suc, ◌+◌, ◌-◌, ◌*◌, ◌≤◌, ◌<◌, ◌∣◌, min}
use native.Mathlib.Nat.{le_trans, le_of_eq, le_of_lt, lt_of_not-le, lt_of_lt_of_le, lt_of_le_of_lt, lt_irrefl, le_antisymm, mul-le-mul_left, mul-lt-mul_of_pos_right, mul_assoc, pow-succ', one-le-pow, pow-le-pow_right, add-zero, add-suc, suc-add, add-sub_of_le, mul_comm, pow-zero, mul-one, zero-add, le_refl, mul-le-mul, dvd-mul_left, lt_of_mul-lt-mul_right, min-eq_left, min-eq_right}
use native.Mathlib.Decide.{dec_le}
use native.Mathlib.Omega.{arith}
use lib.Dec.{T, ltb, ltb→lt, nltb→le}
use lib.Pow.{pow-add}
use Rattle.numbers.specs.Format.{Format, bound, unit, Held, top, LeastScale}
use Rattle.numbers.specs.Nearest.{climb, scale_of}
use Rattle.numbers.proofs.Rounded.{dist}

pub record Scaled (f : Format) (m q : ℕ) : Type 0 where
  pub within : q ≤ f.scales
  pub enough : (m < bound f * unit f q) ⊎ (q ≡ f.scales)
  pub needed : (q ≡ 0) ⊎ (f.lead * unit f q ≤ m)

module _ (f : Format) where
  pub unit_pos : (q : ℕ) → 0 < unit f q
  unit_pos q = one-le-pow q f.radix (omega (arith, f.two))

  pub unit_mono : {p q : ℕ} → p ≤ q → unit f p ≤ unit f q
  unit_mono h = pow-le-pow_right (omega (arith, f.two)) h

  -- a scale's numbers end where those of the next begin
  pub next : (q : ℕ) → bound f * unit f q ≡ f.lead * unit f (suc q)
  next q = mul_assoc f.lead f.radix (unit f q) ∙ ap (λ (x : ℕ). f.lead * x) (sym (pow-succ' f.radix q))

  pub lead_lt : f.lead < bound f
  lead_lt = omega (arith, mul-le-mul_left f.lead f.two, f.three)

  -- a unit is so many of a smaller one
  pub times : {p q : ℕ} → p ≤ q → unit f (q - p) * unit f p ≡ unit f q
  times {p} {q} h = mul_comm (unit f (q - p)) (unit f p) ∙ sym (pow-add f.radix p (q - p)) ∙ ap (λ (x : ℕ). unit f x) (add-sub_of_le h)

  pub unit_dvd : {p q : ℕ} → p ≤ q → unit f p ∣ unit f q
  unit_dvd {p} {q} h = subst (λ (x : ℕ). unit f p ∣ x) (times h) (dvd-mul_left (unit f p) (unit f (q - p)))

  climb_scaled : (m d : ℕ) (b : Bool) (j : ℕ) → j + d ≡ f.scales → (T b → m < bound f * unit f j) → (T (not b) → bound f * unit f j ≤ m)
      → (j ≡ 0) ⊎ (f.lead * unit f j ≤ m) → Scaled f m (climb f d b j m)
  unfolding climb
  climb_scaled m zero b j e y n k = let g : j ≡ f.scales = sym (add-zero j) ∙ e in record { within = le_of_eq g; enough = inr g; needed = k }
  climb_scaled m (suc d) true j e y n k = record { within = omega arith; enough = inl (y tt); needed = k }
  climb_scaled m (suc d) false j e y n k =
      climb_scaled m d (ltb m (bound f * unit f (suc j))) (suc j) (suc-add j d ∙ sym (add-suc j d) ∙ e) (ltb→lt m (bound f * unit f (suc j)))
      (nltb→le m (bound f * unit f (suc j)))
      (inr (le_trans (le_of_eq (sym (next j))) (n tt)))

  unit_zero : (n : ℕ) → n * unit f 0 ≡ n
  unit_zero n = ap (λ (x : ℕ). n * x) (pow-zero f.radix) ∙ mul-one n

  pub scaled : (m : ℕ) → Scaled f m (scale_of f m)
  unfolding scale_of
  scaled m =
      climb_scaled m f.scales (ltb m (bound f)) 0 (zero-add f.scales)
      (λ (t : T (ltb m (bound f))). lt_of_lt_of_le (ltb→lt m (bound f) t) (le_of_eq (sym (unit_zero (bound f)))))
      (λ (t : T (not (ltb m (bound f)))). le_trans (le_of_eq (unit_zero (bound f))) (nltb→le m (bound f) t))
      (inl refl)

  -- what is c units of scale p is below what needs a scale above p
  pub apart : {c p q : ℕ} → c < bound f → p < q → c * unit f p < f.lead * unit f q
  apart {c} {p} {q} h l =
      lt_of_lt_of_le (mul-lt-mul_of_pos_right h (unit_pos p)) (le_trans (le_of_eq (next p)) (mul-le-mul_left f.lead (unit_mono l)))

  not_above : {m p q : ℕ} → Scaled f m p → Scaled f m q → ¬ (q < p)
  not_above {m} {p} {q} s t l =
      elim s.needed [
        | inl e ↦ omega arith
        | inr h ↦
            elim t.enough [
              | inl b ↦ lt_irrefl m (lt_of_lt_of_le b (le_trans (le_of_eq (next q)) (le_trans (mul-le-mul_left f.lead (unit_mono l)) h)))
              | inr e ↦ omega arith
            ]
      ]

  pub scaled_one : {m p q : ℕ} → Scaled f m p → Scaled f m q → p ≡ q
  scaled_one {m} {p} {q} s t = let a : ¬ (q < p) = not_above s t in let b : ¬ (p < q) = not_above t s in omega arith

  -- ---- what is held

  pub held_top : Held f (top f)
  held_top = record { coefficient = bound f - 1; scale = f.scales; small = omega (arith, lead_lt); fits = le_refl f.scales; is = refl }

  pub held_le_top : {w : ℕ} → Held f w → w ≤ top f
  held_le_top {w} h = le_trans (le_of_eq h.is) (mul-le-mul (omega arith) (unit_mono h.fits))

  pub coarser : {p q : ℕ} → p ≤ q → (w k : ℕ) → w ≡ k * unit f q → (j : ℕ) × (w ≡ j * unit f p)
  coarser {p} {q} l w k e = (k * unit f (q - p), e ∙ ap (λ (x : ℕ). k * x) (sym (times l)) ∙ sym (mul_assoc k (unit f (q - p)) (unit f p)))

  -- a held number that is not below the numbers that need a scale is a multiple of its unit
  pub held_mult : {w q : ℕ} → Held f w → (q ≡ 0) ⊎ (f.lead * unit f q ≤ w) → (k : ℕ) × (w ≡ k * unit f q)
  held_mult {w} {q} h (inl e) = (w, sym (ap (λ (x : ℕ). w * unit f x) e ∙ unit_zero w))
  held_mult {w} {q} h (inr l) =
      elim (dec_le q h.scale) [
        | yes g ↦ coarser g w h.coefficient h.is
        | no g ↦ absurd (lt_irrefl w (lt_of_le_of_lt (le_of_eq h.is) (lt_of_lt_of_le (apart h.small (lt_of_not-le g)) l)))
      ]

  -- for a held number there is a multiple of m's unit that is as near to m, or nearer
  pub held_reached : {m q w : ℕ} → Scaled f m q → Held f w → (k : ℕ) × (dist (k * unit f q) m ≤ dist w m)
  held_reached {m} {q} {w} s h =
      elim s.needed [
        | inl e ↦ of (held_mult h (inl e))
        | inr l ↦ elim (dec_le (f.lead * unit f q) w) [ yes g ↦ of (held_mult h (inr g)) | no g ↦ (f.lead, omega arith) ]
      ]
    where
      of : (k : ℕ) × (w ≡ k * unit f q) → (k : ℕ) × (dist (k * unit f q) m ≤ dist w m)
      of x = (x.0, le_of_eq (ap (λ (z : ℕ). dist z m) (sym x.1)))

  -- of a held number the scale that is found is the smallest that holds it
  pub scale_least : {w : ℕ} (h : Held f w) → scale_of f w ≤ h.scale
  scale_least {w} h =
      elim (dec_le (scale_of f w) h.scale) [
        | yes l ↦ l
        | no l ↦
            elim (scaled w).needed [
              | inl e ↦ omega arith
              | inr b ↦ absurd (lt_irrefl w (lt_of_le_of_lt (le_of_eq h.is) (lt_of_lt_of_le (apart h.small (lt_of_not-le l)) b)))
            ]
      ]

  pub below_bound : (n q : ℕ) → Scaled f n q → n ≤ top f → n < bound f * unit f q
  below_bound n q s l =
      elim s.enough [
        | inl b ↦ b
        | inr e ↦
            let k : (bound f - 1) * unit f q < bound f * unit f q = mul-lt-mul_of_pos_right (omega (arith, f.three)) (unit_pos q) in
            lt_of_le_of_lt (subst (λ (x : ℕ). n ≤ (bound f - 1) * unit f x) (sym e) l) k
      ]

  -- a held number as a coefficient at that scale
  at_scale : {m : ℕ} → Held f m → Held f m
  at_scale {m} h =
      let q = scale_of f m in
      let u = unit f q in
      let k = held_mult h (scaled m).needed in
      record {
        coefficient = k.0;
        scale = q;
        small = lt_of_mul-lt-mul_right u (lt_of_le_of_lt (le_of_eq (sym k.1)) (below_bound m q (scaled m) (held_le_top h)));
        fits = (scaled m).within;
        is = k.1;
      }

  -- so the scale that is found is the smallest that holds the number, and no other is
  pub computed_least : {m : ℕ} → Held f m → LeastScale f m (scale_of f m)
  unfolding at_scale
  computed_least h = record { held = at_scale h; here = refl; least = scale_least }

  pub least_is : {m q : ℕ} → LeastScale f m q → q ≡ scale_of f m
  least_is {m} {q} l =
      let c = computed_least l.held in
      le_antisymm (le_trans (l.least c.held) (le_of_eq c.here)) (le_trans (scale_least l.held) (le_of_eq l.here))

  pub held_min : {m n : ℕ} → Held f m → Held f n → Held f (min m n)
  held_min {m} {n} h k =
      elim (dec_le m n) [
        | yes l ↦ subst (Held f) (sym (min-eq_left l)) h
        | no l ↦ subst (Held f) (sym (min-eq_right (le_of_lt (lt_of_not-le l)))) k
      ]
