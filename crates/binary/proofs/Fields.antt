-- What a pattern says, by its fields.
use Rattle.std.proofs.Common.{◌≡◌, ℕ, ◌+◌, ◌-◌, ◌*◌, ◌/◌, ◌%◌, ◌^◌, ◌<◌, ◌≤◌, Bool, cond, ◌&&◌, T, ltb, leb, pos, neg_ℤ, sym, refl, inl, inr, ap, ◌∙◌, ap₂, mod-lt, mul-one, arith, le-ltb, lt-ltb, eq-eqb, ne_eqb, le-leb}
use native.Mathlib.Decide.{dec_le}
use borrow.Author.Tests.{lt-leb}
use Rattle.numbers.specs.Format.{Format}
use Rattle.numbers.specs.Binary.{sign_bit, field_e, field_f, magnitude, unsigned, is_number, worth, BinaryPatterns}
use Rattle.numbers.proofs.Binary.{lead_pos, number_out, patterns}
use Rattle.register.specs.Wrap.{signed_by, scaled}
use Rattle.binary.specs.Layout.{Layout}
use Rattle.binary.specs.Canonical.{Canonical}
use Rattle.binary.proofs.Nearby.{bound_twice, lead_even}

module _ (f : Format) (p : ℕ) where
  module _ (s l n : ℕ) (e_s : s ≡ sign_bit f) (e_l : l ≡ f.lead) (e_n : n ≡ f.scales) where
    pub number_low : p / 2 < s → ltb (p % s / l) (n + 2) ≡ is_number f p
    unfolding is_number
    number_low h =
        ap (λ (x : ℕ). ltb (p % x / l) (n + 2)) e_s
        ∙ ap₂ (λ (x y : ℕ). ltb (p % sign_bit f / x) (y + 2)) e_l e_n
        ∙ sym (ap (λ (t : Bool). t && ltb (field_e f (unsigned f p)) (f.scales + 2)) (lt-ltb p (2 * sign_bit f) (omega arith)))

    pub number_high : s ≤ p / 2 → ltb (p / 2) s ≡ is_number f p
    unfolding is_number
    number_high h =
        le-ltb (p / 2) s h
        ∙ sym (ap (λ (t : Bool). t && ltb (field_e f (unsigned f p)) (f.scales + 2)) (le-ltb p (2 * sign_bit f) (omega arith)))

  pub worth_is : (m : ℕ) → magnitude f (unsigned f p) ≡ m → signed_by (leb (sign_bit f) p) m ≡ worth f p
  unfolding worth
  worth_is m e =
      elim (dec_le (sign_bit f) p) [
        | yes h ↦
            ap (λ (t : Bool). signed_by t m) (le-leb (sign_bit f) p h)
            ∙ sym (ap (λ (t : Bool). cond t (pos (magnitude f (unsigned f p))) (neg_ℤ (pos (magnitude f (unsigned f p))))) (le-ltb p (sign_bit f) h) ∙ ap (λ (x : ℕ). neg_ℤ (pos x)) e)
        | no h ↦
            ap (λ (t : Bool). signed_by t m) (lt-leb (sign_bit f) p (omega arith))
            ∙ sym (ap (λ (t : Bool). cond t (pos (magnitude f (unsigned f p))) (neg_ℤ (pos (magnitude f (unsigned f p))))) (lt-ltb p (sign_bit f) (omega arith)) ∙ ap pos e)
      ]

  pub none_field : field_e f (unsigned f p) ≡ 0 → magnitude f (unsigned f p) ≡ field_f f (unsigned f p) * 2 ^ 0
  none_field e =
      let m = unsigned f p in
      ap (λ (t : Bool). cond t (field_f f m) ((f.lead + field_f f m) * 2 ^ (field_e f m - 1))) (eq-eqb (field_e f m) 0 e) ∙ sym (mul-one (field_f f m))

  pub some_field : (field_e f (unsigned f p) ≡ 0 → ⊥) → magnitude f (unsigned f p) ≡ (f.lead + field_f f (unsigned f p)) * 2 ^ (field_e f (unsigned f p) - 1)
  some_field e =
      let m = unsigned f p in
      ap (λ (t : Bool). cond t (field_f f m) ((f.lead + field_f f m) * 2 ^ (field_e f m - 1))) (ne_eqb (field_e f m) 0 e)

  pub fraction_small : field_f f (unsigned f p) < f.lead
  fraction_small = mod-lt (unsigned f p) (lead_pos f)

-- the parts of a number, over the values that the code holds
module _ (f : Format) (k : ℕ) (lay : Layout f k) (p s l : ℕ) (t : T (is_number f p)) (e_s : s ≡ sign_bit f) (e_l : l ≡ f.lead) where
  e_field : p % s / l ≡ field_e f (unsigned f p)
  e_field = ap₂ (λ (x y : ℕ). p % x / y) e_s e_l

  e_fraction : p % s % l ≡ field_f f (unsigned f p)
  e_fraction = ap₂ (λ (x y : ℕ). p % x % y) e_s e_l

  e_sign : leb s p ≡ leb (sign_bit f) p
  e_sign = ap (λ (x : ℕ). leb x p) e_s

  pub field_small : p % s / l < f.scales + 2
  field_small = omega (arith, e_field, (number_out f lay.binary p t).1)

  pub low_worth : p % s / l ≡ 0 → scaled (leb s p) (p % s % l) 0 ≡ worth f p
  low_worth z = ap₂ (λ (b : Bool) (n : ℕ). signed_by b (n * 2 ^ 0)) e_sign e_fraction ∙ worth_is f p _ (none_field f p (sym e_field ∙ z))

  pub low_canonical : Canonical f (p % s % l) 0
  low_canonical = record { small = omega (arith, e_fraction, fraction_small f p, bound_twice f k lay); within = omega arith; needs = inl refl }

  pub high_worth : (p % s / l ≡ 0 → ⊥) → scaled (leb s p) (l + p % s % l) (p % s / l - 1) ≡ worth f p
  high_worth z =
      let M = f.lead + field_f f (unsigned f p) in
      let m : l + p % s % l ≡ M = ap₂ ◌+◌ e_l e_fraction in
      ap₂ (λ (b : Bool) (n : ℕ). signed_by b (n * 2 ^ (p % s / l - 1))) e_sign m
      ∙ ap (λ (e : ℕ). signed_by (leb (sign_bit f) p) (M * 2 ^ (e - 1))) e_field
      ∙ worth_is f p (M * 2 ^ (field_e f (unsigned f p) - 1)) (some_field f p (λ i. z (e_field ∙ i)))

  pub high_canonical : Canonical f (l + p % s % l) (p % s / l - 1)
  high_canonical =
      record {
        small = omega (arith, e_l, e_fraction, fraction_small f p, bound_twice f k lay);
        within = omega (arith, field_small);
        needs = inr (omega (arith, e_l));
      }

pub patterned : (f : Format) (k : ℕ) → Layout f k → BinaryPatterns f
patterned f k lay = patterns f lay.binary (lead_even f k lay)

pub ruleset parts = (field_small, low_worth, low_canonical, high_worth, high_canonical)

pub ruleset fields = (number_low, number_high)
