-- The patterns of a binary kind: a sign bit, an exponent field E and a fraction field F, below which `lead` fractions fit.
-- The exponents are one more than the scales, for the numbers below the lead, and one that is all ones, for what is no number.
use Rattle.std.specs.Prelude.{◌≡◌, ◌≢◌, Bool, ◌&&◌, cond, ℕ, suc, ◌+◌, ◌-◌, ◌*◌, ◌/◌, ◌%◌, ◌^◌, T, eqb, ltb, ℤ, pos, negsuc, neg_ℤ}
use Rattle.std.proofs.Common.{lit≤}
use Rattle.numbers.specs.Format.{Format, Holds, unit, far}
use Rattle.numbers.specs.Nearest.{scale_of, nearest}
use Rattle.numbers.specs.Coding.{Coding}

-- units of 2 ^ -1074 and 2 ^ -149 cubic metre
abbrev pub binary64 : Format
binary64 = record { radix = 2; lead = 2 ^ 52; scales = 2045; two = lit≤ tt; three = lit≤ tt }

abbrev pub binary32 : Format
binary32 = record { radix = 2; lead = 2 ^ 23; scales = 253; two = lit≤ tt; three = lit≤ tt }

-- the sign bit's worth as a number: 2 ^ 63 or 2 ^ 31
abbrev pub sign_bit : Format → ℕ
sign_bit f = f.lead * (f.scales + 3)

-- the exponent field and the fraction field
abbrev pub field_e : Format → ℕ → ℕ
field_e f m = m / f.lead

abbrev pub field_f : Format → ℕ → ℕ
field_f f m = m % f.lead

-- what a pattern without its sign says
abbrev pub magnitude : Format → ℕ → ℕ
magnitude f m = cond (eqb (field_e f m) 0) (field_f f m) ((f.lead + field_f f m) * 2 ^ (field_e f m - 1))

abbrev pub unsigned : Format → ℕ → ℕ
unsigned f p = p % sign_bit f

unfoldable pub is_number : Format → ℕ → Bool
is_number f p = ltb p (2 * sign_bit f) && ltb (field_e f (unsigned f p)) (f.scales + 2)

unfoldable pub worth : Format → ℕ → ℤ
worth f p = cond (ltb p (sign_bit f)) (pos (magnitude f (unsigned f p))) (neg_ℤ (pos (magnitude f (unsigned f p))))

-- the pattern of a held magnitude, and of a worth
unfoldable pub code : Format → ℕ → ℕ
code f m = scale_of f m * f.lead + m / unit f (scale_of f m)

unfoldable pub pattern : Format → ℤ → ℕ
unfolding code
pattern f (pos m) = code f m
pattern f (negsuc m) = sign_bit f + code f (suc m)

abbrev pub binary : Format → Coding
binary f = record { format = f; number = is_number f; worth = worth f; pattern = pattern f }

-- patterns and worths are inverse but for the negative zero; of two numbers equally near to a sum the nearest is the one whose pattern ends in a 0 bit
pub record BinaryPatterns (f : Format) : Type 0 where
  pub coded : (z : ℤ) → Holds f z → T (is_number f (pattern f z))
  pub back : (z : ℤ) → Holds f z → worth f (pattern f z) ≡ z
  pub there : (p : ℕ) → T (is_number f p) → p ≢ sign_bit f → pattern f (worth f p) ≡ p
  pub zeros : (worth f 0 ≡ pos 0) × (worth f (sign_bit f) ≡ pos 0)
  pub even : (v w : ℤ) → Holds f w → w ≢ nearest f v → far w v ≡ far (nearest f v) v → (pattern f (nearest f v) % 2 ≡ 0) × (pattern f w % 2 ≡ 1)
