-- The number nearest to m units of 2 ^ shift: its pattern and its magnitude, by m's digits.
use Rattle.std.proofs.Common.{◌≡◌, ℕ, suc, ◌+◌, ◌-◌, ◌*◌, ◌/◌, ◌%◌, ◌^◌, ◌<◌, ◌≤◌, min, ◌⊎◌, sym, ap, ◌∙◌, subst, ap₂, inl, inr, le_trans, le_of_eq, lt_of_lt_of_le, pow_mono, mul-le-mul_right, mul_assoc, suc-mul, mul_comm, div-lt_iff_lt-mul, mul-le-mul_left, pow-suc, zero-mul, le_of_mul-le-mul_right, arith, pow_pos, pow-add}
use native.Mathlib.Nat.{min-eq_left, min-eq_right}
use native.Mathlib.Decide.{dec_le}
use lib.Ieee.Nearest.{closest, closest_same}
use Rattle.numbers.specs.Format.{Format, bound, unit, Held, top}
use Rattle.numbers.specs.Nearest.{scale_of, nearest_ℕ}
use Rattle.numbers.proofs.Rounded.{dist}
use Rattle.numbers.specs.Binary.{code, sign_bit}
use Rattle.numbers.proofs.Rounded.{closest_is}
use Rattle.numbers.proofs.Scales.{Scaled, scaled, scaled_one, unit_pos, unit_mono, next, lead_lt, held_top, held_le_top}
use Rattle.numbers.proofs.Nearest.{nearest_ℕ_held, nearest_ℕ_near, nearest_ℕ_of_held}
use Rattle.numbers.proofs.Signed.{held_zero}
use Rattle.numbers.proofs.Binary.{code_of, code_zero, code_below, unit_is, bound_is}
use Rattle.numbers.proofs.Adding.{shifted, nearest_ℕ_shifted}
use Rattle.numbers.proofs.Words.{code_top, code_nearest}
use Rattle.binary.specs.Layout.{Layout, top_code}

module _ (f : Format) (k : ℕ) (lay : Layout f k) where
  pub two : (q : ℕ) → unit f q ≡ 2 ^ q
  two = unit_is f lay.binary

  pub bound_two : bound f ≡ 2 ^ suc k
  bound_two = ap₂ (λ (x y : ℕ). x * y) lay.power lay.binary ∙ sym (pow-suc 2 k)

  pub bound_twice : bound f ≡ 2 * f.lead
  bound_twice = bound_is f lay.binary ∙ omega arith

  pub bound_small : bound f ≤ 2 ^ 53
  bound_small = let h : suc k ≤ 53 = omega (arith, lay.narrow) in le_trans (le_of_eq bound_two) (pow_mono h)

  pub lead_even : f.lead % 2 ≡ 0
  lead_even = ap (λ (x : ℕ). x % 2) (lay.power ∙ ap (λ (x : ℕ). 2 ^ x) (let e : k ≡ suc (k - 1) = omega (arith, lay.some) in e) ∙ pow-suc 2 (k - 1)) ∙ omega arith

  -- ---- nothing to round
  pub exact : (m shift up : ℕ) → shift ≤ f.scales → up ≤ shift → m * 2 ^ up < bound f → (shift - up ≡ 0) ⊎ (f.lead ≤ m * 2 ^ up)
      → (code f (nearest_ℕ f (m * 2 ^ shift)) ≡ (shift - up) * f.lead + m * 2 ^ up) × (nearest_ℕ f (m * 2 ^ shift) ≡ m * 2 ^ shift)
  exact m shift up l w b n =
      let q = shift - up in
      let s : m * 2 ^ shift ≡ m * 2 ^ up * unit f q =
      ap (λ (x : ℕ). m * 2 ^ x) (let e : shift ≡ up + q = omega arith in e)
      ∙ ap (λ (x : ℕ). m * x) (pow-add 2 up q)
      ∙ sym (mul_assoc m (2 ^ up) (2 ^ q))
      ∙ ap (λ (x : ℕ). m * 2 ^ up * x) (sym (two q)) in
      let h : Held f (m * 2 ^ shift) = record { coefficient = m * 2 ^ up; scale = q; small = b; fits = omega arith; is = s } in
      let e : nearest_ℕ f (m * 2 ^ shift) ≡ m * 2 ^ shift = nearest_ℕ_of_held f h in
      (ap (code f) (e ∙ s) ∙ code_of f (m * 2 ^ up) q b (omega arith) n, e)

  pub none : (shift : ℕ) → (0 ≡ code f (nearest_ℕ f (0 * 2 ^ shift))) × (0 * 2 ^ shift ≡ nearest_ℕ f (0 * 2 ^ shift))
  none shift =
      let z : 0 * 2 ^ shift ≡ 0 = zero-mul (2 ^ shift) in
      let e : nearest_ℕ f (0 * 2 ^ shift) ≡ 0 = ap (nearest_ℕ f) z ∙ nearest_ℕ_of_held f (held_zero f) in
      (sym (ap (code f) e ∙ code_zero f), z ∙ sym e)

  -- ---- e digits too many
  pub high : (m e t : ℕ) → k + e ≡ t → 2 ^ t ≤ m → m < 2 ^ suc t → (f.lead * 2 ^ e ≤ m) × (m < bound f * 2 ^ e)
  high m e t i r u =
      let j : suc k + e ≡ suc t = omega arith in (
        le_trans (le_of_eq (ap (λ (x : ℕ). x * 2 ^ e) lay.power ∙ sym (pow-add 2 k e) ∙ ap (λ (x : ℕ). 2 ^ x) i)) r,
        lt_of_lt_of_le u (le_of_eq (sym (ap (λ (x : ℕ). x * 2 ^ e) bound_two ∙ sym (pow-add 2 (suc k) e) ∙ ap (λ (x : ℕ). 2 ^ x) j))),
      )

  pub part_small : (m e : ℕ) → m < bound f * 2 ^ e → m / 2 ^ e < 2 ^ 63
  part_small m e h = let d : m / 2 ^ e < bound f = (div-lt_iff_lt-mul (pow_pos e)).1 h in omega (arith, bound_small)

  pub few : (m e : ℕ) → m < bound f * 2 ^ e → closest m (2 ^ e) ≤ bound f
  few m e b =
      let d : m / 2 ^ e < bound f = (div-lt_iff_lt-mul (pow_pos e)).1 b in
      elim (closest_is m (2 ^ e)) [ inl i ↦ omega arith | inr i ↦ omega arith ]

  at_scale : (m shift e : ℕ) → shift + e ≤ f.scales → f.lead * 2 ^ e ≤ m → m < bound f * 2 ^ e → Scaled f (m * unit f shift) (shift + e)
  at_scale m shift e l g b =
      shifted f m shift e l (subst (λ (x : ℕ). m < bound f * x) (sym (two e)) b) (inr (subst (λ (x : ℕ). f.lead * x ≤ m) (sym (two e)) g))

  code_rounds : (m shift e : ℕ) → shift + e ≤ f.scales → f.lead * 2 ^ e ≤ m → m < bound f * 2 ^ e
      → code f (nearest_ℕ f (m * 2 ^ shift)) ≡ min ((shift + e) * f.lead + closest m (2 ^ e)) (top_code f)
  code_rounds m shift e l g b =
      let M = m * unit f shift in
      let q : scale_of f M ≡ shift + e = scaled_one f (scaled f M) (at_scale m shift e l g b) in
      let c : closest M (unit f (shift + e)) ≡ closest m (2 ^ e) =
      closest_same M (unit f (shift + e)) m (2 ^ e) (unit_pos f (shift + e)) (pow_pos e)
      (mul_assoc m (unit f shift) (2 ^ e)
      ∙ ap (λ (x : ℕ). m * x) (ap (λ (x : ℕ). x * 2 ^ e) (two shift) ∙ sym (pow-add 2 shift e) ∙ sym (two (shift + e)))) in
      ap (λ (x : ℕ). code f (nearest_ℕ f (m * x))) (sym (two shift))
      ∙ code_nearest f lay.binary M
      ∙ ap (λ (x : ℕ). min (x * f.lead + closest M (unit f x)) (top_code f)) q
      ∙ ap (λ (x : ℕ). min ((shift + e) * f.lead + x) (top_code f)) c

  rounds : (m shift e : ℕ) → shift + e ≤ f.scales → f.lead * 2 ^ e ≤ m → m < bound f * 2 ^ e
      → nearest_ℕ f (m * 2 ^ shift) ≡ min (closest m (2 ^ e) * 2 ^ (shift + e)) (top f)
  rounds m shift e l g b =
      ap (λ (x : ℕ). nearest_ℕ f (m * x)) (sym (two shift))
      ∙ nearest_ℕ_shifted f m shift e l (subst (λ (x : ℕ). m < bound f * x) (sym (two e)) b) (inr (subst (λ (x : ℕ). f.lead * x ≤ m) (sym (two e)) g))
      ∙ ap₂ (λ (x y : ℕ). min (closest m x * y) (top f)) (two e) (two (shift + e))

  -- ---- beside the top
  pub top_two : top f ≡ (bound f - 1) * 2 ^ f.scales
  top_two = ap (λ (x : ℕ). (bound f - 1) * x) (two f.scales)

  -- what has a lower scale is no more than the top
  pub below_last : (q : ℕ) → suc q ≤ f.scales → bound f * 2 ^ q ≤ top f
  below_last q j =
      let a : bound f * unit f q ≤ f.lead * unit f f.scales = le_trans (le_of_eq (next f q)) (mul-le-mul_left f.lead (unit_mono f j)) in
      let c : f.lead * unit f f.scales ≤ top f = mul-le-mul_right (unit f f.scales) (omega (arith, lead_lt f)) in
      let d : bound f * unit f q ≡ bound f * 2 ^ q = ap (λ (x : ℕ). bound f * x) (two q) in
      omega arith

  -- a pattern past the top's has the greatest scale
  pub at_last : (n q : ℕ) → n ≤ bound f → top_code f < q * f.lead + n → f.scales ≤ q
  at_last n q b h =
      elim (dec_le (suc q) f.scales) [
        | yes j ↦
            let a : suc q * f.lead ≤ f.scales * f.lead = mul-le-mul_right f.lead j in
            let c : suc q * f.lead ≡ q * f.lead + f.lead = suc-mul q f.lead in
            absurd (omega (arith, bound_twice, lead_lt f))
        | no j ↦ omega arith
      ]

  -- what a pattern up to the top's stands for is no more than the top
  pub in_range : (n q : ℕ) → q ≤ f.scales → n ≤ bound f → q * f.lead + n ≤ top_code f → n * 2 ^ q ≤ top f
  in_range n q l b h =
      elim (dec_le (suc q) f.scales) [
        | yes j ↦ le_trans (mul-le-mul_right (2 ^ q) b) (below_last q j)
        | no j ↦
            let z : q ≡ f.scales = omega arith in
            let e : q * f.lead ≡ f.scales * f.lead = ap (λ (x : ℕ). x * f.lead) z in
            let i : n ≤ bound f - 1 = omega arith in
            le_trans (mul-le-mul_right (2 ^ q) i) (le_of_eq (ap (λ (x : ℕ). (bound f - 1) * 2 ^ x) z ∙ sym top_two))
      ]

  pub past : (n q : ℕ) → q ≤ f.scales → n ≤ bound f → top_code f < q * f.lead + n → top f ≤ n * 2 ^ q
  past n q l b h =
      let j : f.scales ≤ q = at_last n q b h in
      let z : q ≡ f.scales = omega arith in
      let e : q * f.lead ≡ f.scales * f.lead = ap (λ (x : ℕ). x * f.lead) z in
      let i : bound f - 1 ≤ n = omega arith in
      le_trans (le_of_eq (top_two ∙ sym (ap (λ (x : ℕ). (bound f - 1) * 2 ^ x) z))) (mul-le-mul_right (2 ^ q) i)

  pub rounded : (m shift e : ℕ) → shift + e ≤ f.scales → f.lead * 2 ^ e ≤ m → m < bound f * 2 ^ e → (shift + e) * f.lead + closest m (2 ^ e) ≤ top_code f
      → (code f (nearest_ℕ f (m * 2 ^ shift)) ≡ (shift + e) * f.lead + closest m (2 ^ e)) × (nearest_ℕ f (m * 2 ^ shift) ≡ closest m (2 ^ e) * 2 ^ e * 2 ^ shift)
  rounded m shift e l g b h =
      let n = closest m (2 ^ e) in (
        code_rounds m shift e l g b ∙ min-eq_left h,
        rounds m shift e l g b
            ∙ min-eq_left (in_range n (shift + e) l (few m e b) h)
            ∙ ap (λ (x : ℕ). n * x) (pow-add 2 shift e ∙ mul_comm (2 ^ shift) (2 ^ e))
            ∙ sym (mul_assoc n (2 ^ e) (2 ^ shift)),
      )

  -- ---- at the top
  top_is : (shift : ℕ) → shift ≤ f.scales → (bound f - 1) * 2 ^ (f.scales - shift) * 2 ^ shift ≡ top f
  top_is shift l =
      mul_assoc (bound f - 1) (2 ^ (f.scales - shift)) (2 ^ shift)
      ∙ ap (λ (x : ℕ). (bound f - 1) * x)
      (sym (pow-add 2 (f.scales - shift) shift) ∙ ap (λ (x : ℕ). 2 ^ x) (let e : f.scales - shift + shift ≡ f.scales = omega arith in e))
      ∙ sym top_two

  at_top : (m shift : ℕ) → shift ≤ f.scales → nearest_ℕ f (m * 2 ^ shift) ≡ top f
      → (code f (nearest_ℕ f (m * 2 ^ shift)) ≡ top_code f) × (nearest_ℕ f (m * 2 ^ shift) ≡ (bound f - 1) * 2 ^ (f.scales - shift) * 2 ^ shift)
  at_top m shift l e = (ap (code f) e ∙ code_top f lay.binary, e ∙ sym (top_is shift l))

  pub clamped : (m shift e : ℕ) → shift + e ≤ f.scales → f.lead * 2 ^ e ≤ m → m < bound f * 2 ^ e → top_code f < (shift + e) * f.lead + closest m (2 ^ e)
      → (code f (nearest_ℕ f (m * 2 ^ shift)) ≡ top_code f) × (nearest_ℕ f (m * 2 ^ shift) ≡ (bound f - 1) * 2 ^ (f.scales - shift) * 2 ^ shift)
  clamped m shift e l g b h =
      at_top m shift (omega arith) (rounds m shift e l g b ∙ min-eq_right (past (closest m (2 ^ e)) (shift + e) l (few m e b) h))

  pub over : (m shift e : ℕ) → shift ≤ f.scales → f.scales < shift + e → f.lead * 2 ^ e ≤ m
      → (code f (nearest_ℕ f (m * 2 ^ shift)) ≡ top_code f) × (nearest_ℕ f (m * 2 ^ shift) ≡ (bound f - 1) * 2 ^ (f.scales - shift) * 2 ^ shift)
  over m shift e w l g =
      let M = m * 2 ^ shift in
      let a : f.lead * 2 ^ e * 2 ^ shift ≤ M = mul-le-mul_right (2 ^ shift) g in
      let s : f.lead * 2 ^ e * 2 ^ shift ≡ f.lead * unit f (e + shift) =
      mul_assoc f.lead (2 ^ e) (2 ^ shift) ∙ ap (λ (x : ℕ). f.lead * x) (sym (pow-add 2 e shift) ∙ sym (two (e + shift))) in
      let j : suc f.scales ≤ e + shift = omega arith in
      let b : f.lead * unit f (suc f.scales) ≤ f.lead * unit f (e + shift) = mul-le-mul_left f.lead (unit_mono f j) in
      let c : bound f * unit f f.scales ≡ f.lead * unit f (suc f.scales) = next f f.scales in
      let d : top f ≤ bound f * unit f f.scales = mul-le-mul_right (unit f f.scales) (omega arith) in
      let t : nearest_ℕ f M ≤ top f = held_le_top f (nearest_ℕ_held f M) in
      let n : dist (nearest_ℕ f M) M ≤ dist (top f) M = nearest_ℕ_near f M (held_top f) in
      at_top m shift w (omega arith)

  -- ---- sizes
  pub at_most_double : (m u shift : ℕ) → u * 2 ^ shift ≡ nearest_ℕ f (m * 2 ^ shift) → u ≤ 2 * m
  at_most_double m u shift e =
      let M = m * 2 ^ shift in
      let n : dist (nearest_ℕ f M) M ≤ dist 0 M = nearest_ℕ_near f M (held_zero f) in
      let a : u * 2 ^ shift ≤ 2 * m * 2 ^ shift = subst (λ (x : ℕ). u * 2 ^ shift ≤ x) (sym (mul_assoc 2 m (2 ^ shift))) (omega arith) in
      le_of_mul-le-mul_right a (pow_pos shift)

  pub code_small : (m : ℕ) → code f (nearest_ℕ f m) < sign_bit f
  code_small m = code_below f lay.binary (nearest_ℕ_held f m)

  pub scale_fits : (q : ℕ) → q ≤ f.scales → (q * f.lead + (f.lead + f.lead + f.lead) ≤ sign_bit f)
  scale_fits q l = let a : q * f.lead ≤ f.scales * f.lead = mul-le-mul_right f.lead l in omega arith
