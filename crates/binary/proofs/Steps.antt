-- The steps of `nearest_to`, over the values that its code holds: L for the format's lead, w for the bits of a fraction, S for the greatest scale, e for the place of the highest bit of m.
use Rattle.std.proofs.Common.{◌≡◌, ℕ, suc, ◌+◌, ◌-◌, ◌*◌, ◌/◌, ◌%◌, ◌^◌, ◌<◌, ◌≤◌, min, ◌⊎◌, sym, ap, ◌∙◌, ap₂, inl, inr, le_trans, le_of_eq, lt_of_lt_of_le, mul-le-mul_right, mod-eq_of_lt, arith, pow_pos, pow_mono, pow-add, pow-suc, le-div_iff_mul-le, mul-le-mul, suc-mul, true, false, leb}
use borrow.Author.Tests.{true-leb, false-leb}
use native.Mathlib.Decide.{dec_le}
use lib.Ieee.Nearest.{closest}
use Rattle.std.proofs.lemmas.Nat.{shl_below}
use Rattle.numbers.specs.Format.{Format, bound}
use Rattle.numbers.specs.Nearest.{nearest_ℕ}
use Rattle.numbers.specs.Binary.{code}
use Rattle.numbers.proofs.Binary.{lead_pos}
use Rattle.numbers.proofs.Rounded.{closest_is}
use Rattle.binary.specs.Layout.{Layout, top_code}
use Rattle.binary.proofs.Nearby.{none, high, part_small, bound_small, bound_two, bound_twice, exact, rounded, clamped, over, few, at_most_double, scale_fits}

module _ (f : Format) (k : ℕ) (lay : Layout f k) (m shift : ℕ) (z : m ≡ 0) where
  pub none_code : 0 ≡ code f (nearest_ℕ f (m * 2 ^ shift))
  none_code = (none f k lay shift).0 ∙ ap (λ (x : ℕ). code f (nearest_ℕ f (x * 2 ^ shift))) (sym z)

  pub none_units : 0 * 2 ^ shift ≡ nearest_ℕ f (m * 2 ^ shift)
  none_units = (none f k lay shift).1 ∙ ap (λ (x : ℕ). nearest_ℕ f (x * 2 ^ shift)) (sym z)

-- the number nearest to m units is the greatest
abbrev Top : Format → ℕ → ℕ → Type 0
Top f m shift = (code f (nearest_ℕ f (m * 2 ^ shift)) ≡ top_code f) × (nearest_ℕ f (m * 2 ^ shift) ≡ (bound f - 1) * 2 ^ (f.scales - shift) * 2 ^ shift)

module _ (f : Format) (k : ℕ) (lay : Layout f k) (m shift L w e : ℕ) (e_l : L ≡ f.lead) (e_w : w ≡ k) (l : shift ≤ f.scales) (reach : 2 ^ e ≤ m) (under : m < 2 * 2 ^ e) where
  times : (q : ℕ) → q * L ≡ q * f.lead
  times q = ap (λ (x : ℕ). q * x) e_l

  below : m < 2 ^ suc e
  below = omega (arith, pow-suc 2 e)

  -- ---- few digits
  module _ (few_digits : e ≤ w) (up : ℕ) (e_up : up ≡ min (w - e) shift) where
    low : (m * 2 ^ up < bound f) × ((shift - up ≡ 0) ⊎ (f.lead ≤ m * 2 ^ up))
    low =
        let i : suc e + up ≤ suc k = omega arith in (
          lt_of_lt_of_le (shl_below m (suc e) up below) (le_trans (pow_mono i) (le_of_eq (sym (bound_two f k lay)))),
          elim (dec_le shift (w - e)) [
            | yes j ↦ inl (omega arith)
            | no j ↦
                let a : k ≡ e + up = omega arith in
                inr (le_trans (le_of_eq (lay.power ∙ ap (λ (x : ℕ). 2 ^ x) a ∙ pow-add 2 e up)) (mul-le-mul_right (2 ^ up) reach))
          ],
        )

    low_word : (m * 2 ^ up) % 2 ^ 64 ≡ m * 2 ^ up
    low_word = mod-eq_of_lt (let b : m * 2 ^ up < 2 ^ 64 = omega (arith, low.0, bound_small f k lay) in b)

    pub low_cast : m < 2 ^ 64
    low_cast = let i : suc e ≤ 53 = omega (arith, lay.narrow) in omega (arith, below, pow_mono i)

    pub low_fits : (shift - up) * L + (m * 2 ^ up) % 2 ^ 64 < 2 ^ 64
    low_fits =
        let a = scale_fits f k lay (shift - up) (omega arith) in
        let t = times (shift - up) in
        let b : m * 2 ^ up < bound f = low.0 in
        omega (arith, lay.word, low_word, bound_twice f k lay, lead_pos f)

    pub low_code : (shift - up) * L + (m * 2 ^ up) % 2 ^ 64 ≡ code f (nearest_ℕ f (m * 2 ^ shift))
    low_code = ap₂ ◌+◌ (times (shift - up)) low_word ∙ sym (exact f k lay m shift up l (omega arith) low.0 low.1).0

    pub low_units : m * 2 ^ shift ≡ nearest_ℕ f (m * 2 ^ shift)
    low_units = sym (exact f k lay m shift up l (omega arith) low.0 low.1).1

  -- ---- more digits
  module _ (more : w < e) (small : m < 2 ^ 110) where
    large : (f.lead * 2 ^ (e - w) ≤ m) × (m < bound f * 2 ^ (e - w))
    large = high f k lay m (e - w) e (omega arith) reach below

    short : e < 110
    short =
        elim (dec_le 110 e) [
          | yes h ↦ absurd (omega (arith, pow_mono h))
          | no h ↦ omega arith
        ]

    pub drop_small : e - w < 126
    drop_small = omega (arith, short)

    pub quotient_small : m / 2 ^ (e - w) < 2 ^ 63
    quotient_small = part_small f k lay m (e - w) large.1

    module _ (n : ℕ) (e_n : n ≡ closest m (2 ^ (e - w))) where
      n_low : f.lead ≤ n
      n_low =
          let q : f.lead ≤ m / 2 ^ (e - w) = (le-div_iff_mul-le (pow_pos (e - w))).1 large.0 in
          elim (closest_is m (2 ^ (e - w))) [ inl i ↦ omega arith | inr i ↦ omega arith ]

      n_high : n ≤ bound f
      n_high = let a : closest m (2 ^ (e - w)) ≤ bound f = few f k lay m (e - w) large.1 in omega arith

      pub high_fits : (shift + (e - w)) * L + n < 2 ^ 64
      high_fits =
          let a : shift + (e - w) ≤ 2155 = omega (arith, short, lay.short) in
          let b : f.lead ≤ 2 ^ 52 = omega (arith, bound_small f k lay, bound_twice f k lay) in
          omega (arith, times (shift + (e - w)), mul-le-mul a b, n_high, bound_small f k lay)

      is_code : (shift + (e - w)) * L + n ≡ (shift + (e - w)) * f.lead + closest m (2 ^ (e - w))
      is_code = ap₂ ◌+◌ (times (shift + (e - w))) e_n

      module _ (fits : true ≡ leb ((shift + (e - w)) * L + n) (top_code f)) where
        within : (shift + (e - w)) * L + n ≤ top_code f
        within = true-leb _ _ fits

        in_scale : shift + (e - w) ≤ f.scales
        in_scale =
            elim (dec_le (suc f.scales) (shift + (e - w))) [
              | yes j ↦
                  let a : suc f.scales * f.lead ≤ (shift + (e - w)) * f.lead = mul-le-mul_right f.lead j in
                  absurd (omega (arith, within, is_code, e_n, n_low, suc-mul f.scales f.lead, bound_twice f k lay, lead_pos f))
              | no j ↦ omega arith
            ]

        is_rounded : (code f (nearest_ℕ f (m * 2 ^ shift)) ≡ (shift + (e - w)) * f.lead + closest m (2 ^ (e - w)))
            × (nearest_ℕ f (m * 2 ^ shift) ≡ closest m (2 ^ (e - w)) * 2 ^ (e - w) * 2 ^ shift)
        is_rounded = rounded f k lay m shift (e - w) in_scale large.0 large.1 (omega (arith, within, is_code))

        pub high_code : (shift + (e - w)) * L + n ≡ code f (nearest_ℕ f (m * 2 ^ shift))
        high_code = is_code ∙ sym is_rounded.0

        pub high_units : (n * 2 ^ (e - w)) % 2 ^ 128 * 2 ^ shift ≡ nearest_ℕ f (m * 2 ^ shift)
        high_units =
            let z : n * 2 ^ (e - w) * 2 ^ shift ≡ nearest_ℕ f (m * 2 ^ shift) = ap (λ (v : ℕ). v * 2 ^ (e - w) * 2 ^ shift) e_n ∙ sym is_rounded.1 in
            let b : n * 2 ^ (e - w) < 2 ^ 128 = omega (arith, at_most_double f k lay m (n * 2 ^ (e - w)) shift z) in
            ap (λ (v : ℕ). v * 2 ^ shift) (mod-eq_of_lt b) ∙ z

      -- ---- at the top
      module _ (out : false ≡ leb ((shift + (e - w)) * L + n) (top_code f)) where
        is_top : Top f m shift
        is_top =
            let a : top_code f < (shift + (e - w)) * f.lead + closest m (2 ^ (e - w)) = omega (arith, is_code, false-leb _ _ out) in
            elim (dec_le (shift + (e - w)) f.scales) [
              | yes h ↦ clamped f k lay m shift (e - w) h large.0 large.1 a
              | no h ↦ over f k lay m shift (e - w) l (omega arith) large.0
            ]

        room : (bound f - 1) * 2 ^ (f.scales - shift) ≤ 2 * m
        room = at_most_double f k lay m ((bound f - 1) * 2 ^ (f.scales - shift)) shift (sym is_top.1)

        pub greatest_code : (t : ℕ) → t ≡ top_code f → t ≡ code f (nearest_ℕ f (m * 2 ^ shift))
        greatest_code t h = h ∙ sym is_top.0

        module _ (S : ℕ) (e_s : S ≡ f.scales) where
          pub greatest_shift : S - shift < 128
          greatest_shift =
              elim (dec_le 128 (S - shift)) [
                | yes h ↦
                    let i : 128 ≤ f.scales - shift = omega arith in
                    let a : 1 * 2 ^ (f.scales - shift) ≤ (bound f - 1) * 2 ^ (f.scales - shift) = mul-le-mul_right (2 ^ (f.scales - shift)) (omega (arith, f.three)) in
                    absurd (omega (arith, pow_mono i, room))
                | no h ↦ omega arith
              ]

          pub greatest_units : ((2 * L - 1) * 2 ^ (S - shift)) % 2 ^ 128 * 2 ^ shift ≡ nearest_ℕ f (m * 2 ^ shift)
          greatest_units =
              let a : (2 * L - 1) * 2 ^ (S - shift) ≡ (bound f - 1) * 2 ^ (f.scales - shift) =
              ap₂ (λ (x y : ℕ). x * 2 ^ (y - shift)) (let e : 2 * L - 1 ≡ bound f - 1 = omega (arith, bound_twice f k lay) in e) e_s in
              let b : (2 * L - 1) * 2 ^ (S - shift) < 2 ^ 128 = omega (arith, room) in
              ap (λ (v : ℕ). v * 2 ^ shift) (mod-eq_of_lt b ∙ a) ∙ sym is_top.1

pub ruleset steps = (none_code, none_units, low_cast, low_fits, low_code, low_units, drop_small, quotient_small, high_fits, greatest_shift)
