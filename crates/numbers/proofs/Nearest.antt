-- The nearest number of a format to a magnitude: it is held, none is nearer, it keeps order, and a held number is its own.
use mathlib.Core.Path.{◌≡◌, refl, sym, ap, ap₂, ◌∙◌, subst}
use mathlib.Core.Logic.{◌⊎◌, ◌≢◌, inl, inr}
use Prim.Native.Nat.{ℕ, suc, ◌+◌, ◌-◌, ◌*◌, ◌/◌, ◌%◌, ◌≤◌, ◌<◌, ◌∣◌, min}
use native.Mathlib.Nat.{le_trans, lt_of_le_of_lt, mul-le-mul_right, min-eq_left, min-eq_right, div-lt_iff_lt-mul, le-div_iff_mul-le, dvd-mul_left_of_dvd, dvd_trans, div-mul_cancel, div-mul-le_self, mul-div_cancel, add-mul, eq_of_mul-eq-mul_right}
use native.Mathlib.Decide.{dec_le}
use native.Mathlib.Omega.{arith}
use lib.Ieee.Nearest.{closest}
use Rattle.numbers.specs.Format.{Format, bound, unit, Held, top}
use Rattle.numbers.specs.Nearest.{scale_of, nearest_ℕ}
use Rattle.numbers.proofs.Rounded.{dist, closest_near, closest_is, closest_tie}
use Rattle.numbers.proofs.Scales.{Scaled, unit_pos, next, lead_lt, scaled, scaled_one, held_top, held_le_top, held_mult, held_reached, unit_dvd}

module _ (f : Format) where
  -- the rounded multiple is held, or both it and m are at the top or above
  abbrev Made : ℕ → ℕ → Type 0
  Made m w = Held f w ⊎ ((top f ≤ m) × (top f ≤ w))

  made : (m q n : ℕ) → Scaled f m q → (n ≡ m / unit f q) ⊎ (n ≡ suc (m / unit f q)) → Made m (n * unit f q)
  made m q n s o =
      elim (dec_le (suc n) (bound f)) [
        | yes l ↦ inl (record { coefficient = n; scale = q; small = l; fits = s.within; is = refl })
        | no l ↦
            elim (dec_le (suc q) f.scales) [
              | yes k ↦
                  let b : m < bound f * unit f q = elim s.enough [ inl b ↦ b | inr e ↦ omega arith ] in
                  let d : m / unit f q < bound f = (div-lt_iff_lt-mul (unit_pos f q)).1 b in
                  let e : n ≡ bound f = omega arith in
                  inl (record { coefficient = f.lead; scale = suc q; small = lead_lt f; fits = k; is = ap (λ (x : ℕ). x * unit f q) e ∙ next f q })
              | no k ↦
                  let e : q ≡ f.scales = omega (arith, s.within) in
                  let d : bound f - 1 ≤ m / unit f q = omega arith in
                  let a : (bound f - 1) * unit f q ≤ m = (le-div_iff_mul-le (unit_pos f q)).0 d in
                  let c : (bound f - 1) * unit f q ≤ n * unit f q = mul-le-mul_right (unit f q) (omega arith) in
                  inr (subst (λ (x : ℕ). ((bound f - 1) * unit f x ≤ m) × ((bound f - 1) * unit f x ≤ n * unit f q)) e (a, c))
            ]
      ]

  -- so `nearest_ℕ` is that multiple, or the top for an m that is no less
  pub nearest_ℕ_is : (m : ℕ)
      → (let u = unit f (scale_of f m) in ((nearest_ℕ f m ≡ closest m u * u) × Held f (closest m u * u)) ⊎ ((nearest_ℕ f m ≡ top f) × (top f ≤ m)))
  unfolding nearest_ℕ
  nearest_ℕ_is m =
      let q = scale_of f m in
      let n = closest m (unit f q) in
      elim (made m q n (scaled f m) (closest_is m (unit f q))) [
        | inl h ↦ inl (min-eq_left (held_le_top f h), h)
        | inr h ↦ inr (min-eq_right h.1, h.0)
      ]

  pub nearest_ℕ_held : (m : ℕ) → Held f (nearest_ℕ f m)
  nearest_ℕ_held m =
      elim (nearest_ℕ_is m) [
        | inl h ↦ subst (Held f) (sym h.0) h.1
        | inr h ↦ subst (Held f) (sym h.0) (held_top f)
      ]

  pub nearest_ℕ_near : (m : ℕ) {w : ℕ} → Held f w → dist (nearest_ℕ f m) m ≤ dist w m
  nearest_ℕ_near m {w} h =
      elim (nearest_ℕ_is m) [
        | inl e ↦
            let k = held_reached f (scaled f m) h in
            subst (λ (x : ℕ). dist x m ≤ dist w m) (sym e.0) (le_trans (closest_near m k.0 (unit_pos f (scale_of f m))) k.1)
        | inr e ↦
            let t : w ≤ top f = held_le_top f h in
            subst (λ (x : ℕ). dist x m ≤ dist w m) (sym e.0) (omega (arith, e.1))
      ]

  pub nearest_ℕ_of_held : {m : ℕ} → Held f m → nearest_ℕ f m ≡ m
  nearest_ℕ_of_held {m} h = omega (arith, nearest_ℕ_near m h)

  -- the nearest to a multiple of a scale's unit is a multiple of it
  pub nearest_ℕ_mult : {m p : ℕ} → p ≤ f.scales → unit f p ∣ m → unit f p ∣ nearest_ℕ f m
  nearest_ℕ_mult {m} {p} l d =
      elim (dec_le p (scale_of f m)) [
        | yes g ↦
            elim (nearest_ℕ_is m) [
              | inl e ↦ subst (λ (x : ℕ). unit f p ∣ x) (sym e.0) (dvd-mul_left_of_dvd (unit f p) (unit_dvd f g) (closest m (unit f (scale_of f m))))
              | inr e ↦ subst (λ (x : ℕ). unit f p ∣ x) (sym e.0) (dvd-mul_left_of_dvd (unit f p) (unit_dvd f l) (bound f - 1))
            ]
        | no g ↦
            let q = scale_of f m in
            let s : Scaled f m q = scaled f m in
            let b : m < bound f * unit f q = elim s.enough [ inl b ↦ b | inr e ↦ omega arith ] in
            let c : unit f q ∣ m = dvd_trans (unit f q) (unit_dvd f (omega arith)) d in
            let h : Held f m =
            record {
              coefficient = m / unit f q;
              scale = q;
              small = (div-lt_iff_lt-mul (unit_pos f q)).1 b;
              fits = s.within;
              is = sym (div-mul_cancel (unit f q) c);
            } in
            subst (λ (x : ℕ). unit f p ∣ x) (sym (nearest_ℕ_of_held h)) d
      ]

  -- ---- ties

  -- m rounded down has m's scale
  pub floor_scaled : {m q : ℕ} → Scaled f m q → Scaled f (m / unit f q * unit f q) q
  floor_scaled {m} {q} s =
      let l : m / unit f q * unit f q ≤ m = div-mul-le_self m (unit f q) in
      record {
        within = s.within;
        enough = elim s.enough [ inl b ↦ inl (lt_of_le_of_lt l b) | inr e ↦ inr e ];
        needed = elim s.needed [ inl e ↦ inl e | inr h ↦ inr (mul-le-mul_right (unit f q) ((le-div_iff_mul-le (unit_pos f q)).1 h)) ];
      }

  -- a held number that is as near as the nearest multiple is a multiple
  tie_mult : {m q w : ℕ} → Scaled f m q → Held f w → dist w m ≡ dist (closest m (unit f q) * unit f q) m → (k : ℕ) × (w ≡ k * unit f q)
  tie_mult {m} {q} {w} s h e =
      elim s.needed [
        | inl z ↦ held_mult f h (inl z)
        | inr l ↦
            elim (dec_le (f.lead * unit f q) w) [
              | yes g ↦ held_mult f h (inr g)
              | no g ↦ absurd (omega (arith, closest_near m f.lead (unit_pos f q)))
            ]
      ]

  -- m lies in the middle of w and its nearest number: what the two are
  pub record Tie (m w : ℕ) : Type 0 where
    pub coefficient : ℕ
    pub other : ℕ
    pub scale : ℕ
    pub chosen : nearest_ℕ f m ≡ coefficient * unit f scale
    pub second : w ≡ other * unit f scale
    pub even : coefficient % 2 ≡ 0
    pub odd : other % 2 ≡ 1
    pub lower : scale_of f (min w (nearest_ℕ f m)) ≡ scale
    pub scale_is : Scaled f (min w (nearest_ℕ f m)) scale
    pub step : (coefficient ≡ suc other) ⊎ (other ≡ suc coefficient)

  pub tie : (m : ℕ) {w : ℕ} → Held f w → w ≢ nearest_ℕ f m → dist w m ≡ dist (nearest_ℕ f m) m → Tie m w
  tie m {w} h n e =
      elim (nearest_ℕ_is m) [
        | inr t ↦ let l : w ≤ top f = held_le_top f h in absurd (omega (arith, t.0, t.1))
        | inl t ↦
            let q = scale_of f m in
            let u = unit f q in
            let c = closest m u in
            let s : Scaled f m q = scaled f m in
            let k : (k : ℕ) × (w ≡ k * u) = tie_mult s h (e ∙ ap (λ (x : ℕ). dist x m) t.0) in
            let r : (c % 2 ≡ 0) × (min (k.0 * u) (c * u) ≡ m / u * u) × (k.0 * u + c * u ≡ m / u * u + suc (m / u) * u) =
            closest_tie m k.0 (unit_pos f q) (λ (i : k.0 * u ≡ c * u). n (k.1 ∙ i ∙ sym t.0))
            (ap (λ (x : ℕ). dist x m) (sym k.1) ∙ e ∙ ap (λ (x : ℕ). dist x m) t.0) in
            let i : min w (nearest_ℕ f m) ≡ m / u * u = ap₂ min k.1 t.0 ∙ r.1 in
            let z : Scaled f (min w (nearest_ℕ f m)) q = subst (λ (x : ℕ). Scaled f x q) (sym i) (floor_scaled s) in
            let a : k.0 + c ≡ m / u + suc (m / u) =
            eq_of_mul-eq-mul_right u (unit_pos f q) (k.0 + c) (m / u + suc (m / u)) (add-mul k.0 c u ∙ r.2 ∙ sym (add-mul (m / u) (suc (m / u)) u)) in
            record {
              coefficient = c;
              other = k.0;
              scale = q;
              chosen = t.0;
              second = k.1;
              even = r.0;
              odd = omega (arith, r.0);
              lower = scaled_one f (scaled f (min w (nearest_ℕ f m))) z;
              scale_is = z;
              step = elim (closest_is m u) [ inl b ↦ inr (omega arith) | inr b ↦ inl (omega arith) ];
            }
      ]

  pub nearest_ℕ_tie : (m : ℕ) {w : ℕ} → Held f w → w ≢ nearest_ℕ f m → dist w m ≡ dist (nearest_ℕ f m) m
      → nearest_ℕ f m / unit f (scale_of f (min w (nearest_ℕ f m))) % 2 ≡ 0
  nearest_ℕ_tie m {w} h n e =
      let t = tie m h n e in
      ap₂ (λ (x y : ℕ). x / unit f y % 2) t.chosen t.lower ∙ ap (λ (x : ℕ). x % 2) (mul-div_cancel t.coefficient (unit_pos f t.scale)) ∙ t.even

  -- the other one's coefficient is odd there, so the rule picks one of the two
  pub nearest_ℕ_tie_odd : (m : ℕ) {w : ℕ} → Held f w → w ≢ nearest_ℕ f m → dist w m ≡ dist (nearest_ℕ f m) m
      → w / unit f (scale_of f (min w (nearest_ℕ f m))) % 2 ≡ 1
  nearest_ℕ_tie_odd m {w} h n e =
      let t = tie m h n e in
      ap₂ (λ (x y : ℕ). x / unit f y % 2) t.second t.lower ∙ ap (λ (x : ℕ). x % 2) (mul-div_cancel t.other (unit_pos f t.scale)) ∙ t.odd
