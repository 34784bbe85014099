-- The steps of a reading, over the values that its code holds.
use Rattle.std.proofs.Common.{◌≡◌, ℕ, suc, ◌+◌, ◌-◌, ◌*◌, ◌/◌, ◌%◌, ◌^◌, ◌<◌, ◌≤◌, Bool, true, false, cond, ltb, leb, ℤ, pos, nat_abs, Some, None, Ok, Err, Option, sym, refl, ap, ◌∙◌, subst, ap₂, inl, le_trans, le_of_eq, lt_of_lt_of_le, lt_of_le_of_lt, mod-eq_of_lt, zero-add, mul-one, div-one, arith, pow_pos, pow_mono, ltb-false, ltb-true, le-ltb, lt-ltb, leb-false, leb-true}
use native.Mathlib.Decide.{dec_le}
use borrow.Author.Differences.{ints}
use Rattle.std.specs.Bool.{then_some}
use lib.Signed.{lt_z}
use lib.Ieee.Nearest.{closest}
use Rattle.numbers.specs.Format.{Format, bound}
use Rattle.numbers.specs.Nearest.{edge, nearest_ℕ}
use Rattle.numbers.specs.Binary.{code, pattern, sign_bit, binary}
use Rattle.numbers.specs.Outcome.{Outcome, told_by}
use Rattle.numbers.specs.Coding.{outcome}
use Rattle.numbers.proofs.Outcomes.{outcome_inside, outcome_over, outcome_under}
use Rattle.numbers.proofs.Binary.{lead_pos}
use Rattle.register.specs.Limbs.{Rounded, LeastBits}
use Rattle.register.specs.Wrap.{signed_by}
use Rattle.binary.specs.Layout.{Layout, top_code, signed_code, nearest_of}
use Rattle.binary.proofs.Nearby.{high, part_small, bound_small, bound_two, bound_twice, exact, rounded, few, scale_fits, code_small}
use Rattle.binary.proofs.Signs.{sign_is}
use Rattle.binary.proofs.Joins.{sum_is}
use Rattle.kinds.proofs.Edges.{closest_of, out_long, in_short, in_edge, out_edge}
use Rattle.kinds.specs.Answer.{answered}
use Rattle.kinds.specs.Range.{code_in_range}
use Rattle.refusals.specs.declared.Refusal.{Refusal}
use Rattle.refusals.specs.declared.Refusal.TheVariants.{AboveRange, BelowRange}

module _ (f : Format) (m : ℕ) where
  pub inside : (c : ℕ) → m < edge f → code f (nearest_ℕ f m) ≡ c → Some c ≡ code_in_range f m
  inside c h e = ap Some (sym e) ∙ sym (ap (λ (t : Bool). cond t (Some (code f (nearest_ℕ f m))) None) (lt-ltb m (edge f) h))

  pub outside : edge f ≤ m → None ≡ code_in_range f m
  outside h = sym (ap (λ (t : Bool). cond t (Some (code f (nearest_ℕ f m))) None) (le-ltb m (edge f) h))

reaches : (m s : ℕ) → LeastBits m s → 0 < s → 2 ^ (s - 1) ≤ m
reaches m s b p =
    elim (dec_le (2 ^ (s - 1)) m) [
      | yes h ↦ h
      | no h ↦ let l : s ≤ s - 1 = b.least (s - 1) (omega arith) in absurd (omega arith)
    ]

-- ---- the steps, over the values that the code holds: w for the fraction's bits, L for the lead, S for the greatest scale, s for the bits of m
module _ (f : Format) (k : ℕ) (lay : Layout f k) (m s w : ℕ) (size : LeastBits m s) (e_w : w ≡ k) where
  -- ---- few digits
  pub whole : (c : ℕ) → s ≤ w + 1 → c ≡ m / 2 ^ 0 % 2 ^ 64 → Some c ≡ code_in_range f m
  whole c l e =
      let n : s ≤ suc k = omega arith in
      let b : m < bound f = lt_of_lt_of_le size.enough (le_trans (pow_mono n) (le_of_eq (sym (bound_two f k lay)))) in
      let o : m * 2 ^ 0 ≡ m = mul-one m in
      let x = exact f k lay m 0 0 (omega arith) (omega arith) (subst (λ (y : ℕ). y < bound f) (sym o) b) (inl refl) in
      let r : m % 2 ^ 64 ≡ m = mod-eq_of_lt (let h : m < 2 ^ 64 = omega (arith, bound_small f k lay) in h) in
      inside f m c (in_short f k lay m b)
      (ap (λ (y : ℕ). code f (nearest_ℕ f y)) (sym o) ∙ x.0 ∙ omega (arith, o) ∙ sym (e ∙ ap (λ (y : ℕ). y % 2 ^ 64) (div-one m) ∙ r))

  -- ---- more digits
  module _ (more : w + 1 < s) where
    large : (f.lead * 2 ^ (s - (w + 1)) ≤ m) × (m < bound f * 2 ^ (s - (w + 1)))
    large =
        let i : s ≡ suc (s - 1) = omega arith in
        high f k lay m (s - (w + 1)) (s - 1) (omega arith) (reaches m s size (omega arith)) (subst (λ (x : ℕ). m < 2 ^ x) i size.enough)

    pub part : m / 2 ^ (s - (w + 1)) < 2 ^ 63
    part = part_small f k lay m (s - (w + 1)) large.1

    module _ (S : ℕ) (e_s : S ≡ f.scales) where
      pub long : S < s - (w + 1) → None ≡ code_in_range f m
      long l = outside f m (out_long f k lay m (s - (w + 1)) (omega arith) large.0)

      module _ (L n : ℕ) (e_l : L ≡ f.lead) (fits : s - (w + 1) ≤ S) (r : Rounded m (2 ^ (s - (w + 1))) n) where
        near : n ≡ closest m (2 ^ (s - (w + 1)))
        near = closest_of m (2 ^ (s - (w + 1))) n (pow_pos (s - (w + 1))) r

        times : (s - (w + 1)) * L ≡ (s - (w + 1)) * f.lead
        times = ap (λ (x : ℕ). (s - (w + 1)) * x) e_l

        pub code_fits : (s - (w + 1)) * L + n < 2 ^ 64
        code_fits =
            let a : closest m (2 ^ (s - (w + 1))) ≤ bound f = few f k lay m (s - (w + 1)) large.1 in
            omega (arith, times, near, scale_fits f k lay (s - (w + 1)) (omega arith), bound_twice f k lay, lead_pos f, lay.word)

        is_closest : (s - (w + 1)) * L + n ≡ (s - (w + 1)) * f.lead + closest m (2 ^ (s - (w + 1)))
        is_closest = ap₂ ◌+◌ times near

        middle : (s - (w + 1)) * L + n ≤ top_code f → Some ((s - (w + 1)) * L + n) ≡ code_in_range f m
        middle h =
            let d = s - (w + 1) in
            let z : 0 + d ≡ d = zero-add d in
            let y = rounded f k lay m 0 d (omega arith) large.0 large.1 (subst (λ (x : ℕ). x * f.lead + closest m (2 ^ d) ≤ top_code f) (sym z) (omega (arith, is_closest))) in
            inside f m (d * L + n) (in_edge f k lay m d (omega arith) large.1 (omega (arith, is_closest)))
            (ap (λ (x : ℕ). code f (nearest_ℕ f x)) (sym (mul-one m)) ∙ y.0 ∙ ap (λ (x : ℕ). x * f.lead + closest m (2 ^ d)) z ∙ sym is_closest)

        over : top_code f < (s - (w + 1)) * L + n → None ≡ code_in_range f m
        over h = outside f m (out_edge f k lay m (s - (w + 1)) (omega arith) large.1 (omega (arith, is_closest)))

        pub last : (o : Option ℕ) → o ≡ then_some (leb ((s - (w + 1)) * L + n) (top_code f)) ((s - (w + 1)) * L + n) → o ≡ code_in_range f m
        last o e = e ∙ go (leb ((s - (w + 1)) * L + n) (top_code f)) refl
          where
            go : (t : Bool) → leb ((s - (w + 1)) * L + n) (top_code f) ≡ t → then_some t ((s - (w + 1)) * L + n) ≡ code_in_range f m
            go true h = middle (omega (arith, leb-true ((s - (w + 1)) * L + n) (top_code f) h))
            go false h = over (omega (arith, leb-false ((s - (w + 1)) * L + n) (top_code f) h))

pub ruleset ranges = (whole, part, long)

-- ---- with the sign
module _ (f : Format) (k : ℕ) (lay : Layout f k) (v : ℤ) (m : ℕ) (o : Option ℕ) (n : Bool) (is : m ≡ nat_abs v) (e : o ≡ code_in_range f m) where
  in_parts : (c : ℕ) → o ≡ Some c → (nat_abs v < edge f) × (c ≡ code f (nearest_ℕ f (nat_abs v)))
  in_parts c i = go (ltb (nat_abs v) (edge f)) refl (sym i ∙ e ∙ ap (code_in_range f) is)
    where
      go : (t : Bool) → ltb (nat_abs v) (edge f) ≡ t → Some c ≡ cond t (Some (code f (nearest_ℕ f (nat_abs v)))) None → (nat_abs v < edge f) × (c ≡ code f (nearest_ℕ f (nat_abs v)))
      go true t h = (omega (arith, ltb-true (nat_abs v) (edge f) t), cc)
      go false t h = absurd (let z : ◌≡◌ {A = ℕ} 0 1 = cc in omega arith)

  out : o ≡ None → edge f ≤ nat_abs v
  out i = go (ltb (nat_abs v) (edge f)) refl (sym i ∙ e ∙ ap (code_in_range f) is)
    where
      go : (t : Bool) → ltb (nat_abs v) (edge f) ≡ t → None ≡ cond t (Some (code f (nearest_ℕ f (nat_abs v)))) None → edge f ≤ nat_abs v
      go true t h = absurd (let z : ◌≡◌ {A = ℕ} 0 1 = cc in omega arith)
      go false t h = ltb-false (nat_abs v) (edge f) t

  pub code_below : (c : ℕ) → o ≡ Some c → c < sign_bit f
  code_below c i = lt_of_le_of_lt (le_of_eq (in_parts c i).1) (code_small f k lay (nat_abs v))

  pub read : (c s : ℕ) → o ≡ Some c → s ≡ signed_code f n c → n ≡ lt_z v (pos 0) → Ok s ≡ answered (outcome (binary f) v)
  read c s i h sign =
      let x = in_parts c i in
      ap Ok (sum_is f k lay n (nat_abs v) c s x.1 h ∙ ap (nearest_of f) (ap (λ (t : Bool). signed_by t (nat_abs v)) sign ∙ sym (sign_is v)))
      ∙ sym (ap (λ (o : Outcome ℤ). answered (told_by (pattern f) o)) (outcome_inside f v x.0))

  pub read_past : (r : Refusal) → o ≡ None → r ≡ cond n BelowRange AboveRange → n ≡ lt_z v (pos 0) → Err r ≡ answered (outcome (binary f) v)
  read_past r i h sign = go n sign h
    where
      go : (t : Bool) → t ≡ lt_z v (pos 0) → r ≡ cond t BelowRange AboveRange → Err r ≡ answered (outcome (binary f) v)
      go true s h = let l = out i in ap Err h ∙ sym (ap (λ (o : Outcome ℤ). answered (told_by (pattern f) o)) (outcome_under f v (omega (arith, ints))))
      go false s h = let l = out i in ap Err h ∙ sym (ap (λ (o : Outcome ℤ). answered (told_by (pattern f) o)) (outcome_over f v (omega (arith, ints))))

pub ruleset readings = (code_below, read, read_past)
