-- Binary patterns and worths, there and back; a pattern ends as its coefficient does.
use mathlib.Core.Path.{◌≡◌, refl, sym, ap, ap₂, ◌∙◌, subst}
use mathlib.Core.Logic.{◌⊎◌, ◌≢◌, inl, inr}
use mathlib.Core.Bool.{Bool, true, false, ◌&&◌, cond}
use Prim.Native.Nat.{ℕ, zero, suc, ◌+◌, ◌-◌, ◌*◌, ◌/◌, ◌%◌, ◌^◌, ◌≤◌, ◌<◌, min}
use native.Mathlib.Nat.{le_trans, le_of_eq, le_of_lt, lt_of_lt_of_le, lt_of_mul-lt-mul_right, mul-le-mul_right, mul-lt-mul_of_pos_right, mul-div_cancel, zero-mul, div-add-mod', mod-lt, mul-one, pow-zero, div-lt_iff_lt-mul, mod-eq_of_lt, add-sub_of_le, le-div_iff_mul-le, add-mod_left, add-zero, mul-mod_left, mul_assoc, le_refl, le_of_mul-le-mul_right, mul_comm, mul-le-mul_left}
use native.Mathlib.Decide.{dec_le}
use native.Mathlib.Omega.{arith}
use lib.Dec.{T, eqb, ltb, eqb-suc-zero, ltb→lt, lt→ltb}
use borrow.Author.Tests.{lt-ltb, le-ltb}
use lib.Arith.{digits_div, digits_mod}
use lib.IntN.{ℤ, pos, negsuc, neg_ℤ, nat_abs}
use Rattle.numbers.specs.Format.{Format, bound, unit, Held, Holds, top, far}
use Rattle.numbers.specs.Nearest.{scale_of, nearest_ℕ, nearest}
use Rattle.numbers.proofs.Rounded.{dist}
use Rattle.numbers.specs.Binary.{sign_bit, field_e, magnitude, unsigned, is_number, worth, code, pattern, BinaryPatterns, binary}
use Rattle.numbers.specs.Coding.{Codes}
use Rattle.numbers.proofs.Scales.{Scaled, scaled, scaled_one, unit_pos, held_mult, held_le_top, lead_lt, next, below_bound}
use Rattle.numbers.proofs.Signed.{abs_neg, abs_nearest, tie_abs, held_zero}
use Rattle.numbers.proofs.Nearest.{tie, nearest_ℕ_held}

pub and_left : (a b : Bool) → T (a && b) → T a
and_left true b t = tt
and_left false b t = t

pub and_right : (a b : Bool) → T (a && b) → T b
and_right true b t = t
and_right false b t = absurd t

pub and_both : (a b : Bool) → T a → T b → T (a && b)
and_both true b t u = u
and_both false b t u = t

module _ (f : Format) where
  pub lead_pos : 0 < f.lead
  lead_pos = elim (dec_le f.lead 0) [ yes h ↦ let z : f.lead ≡ 0 = omega arith in let e : bound f ≡ 0 = ap (λ (x : ℕ). x * f.radix) z ∙ zero-mul f.radix in absurd (omega (arith, f.three)) | no h ↦ omega arith ]

  pub sign_pos : 0 < sign_bit f
  sign_pos = let a : f.lead * 1 ≤ f.lead * (f.scales + 3) = mul-le-mul_left f.lead (omega arith) in omega (arith, lead_pos)

  -- the coefficient at the scale that is found
  abbrev pub digits : ℕ → ℕ
  digits m = m / unit f (scale_of f m)

  pub digits_is : {m : ℕ} → Held f m → digits m * unit f (scale_of f m) ≡ m
  digits_is {m} h =
      let k = held_mult f h (scaled f m).needed in
      let u = unit f (scale_of f m) in
      ap (λ (x : ℕ). x / u * u) k.1 ∙ ap (λ (x : ℕ). x * u) (mul-div_cancel k.0 (unit_pos f (scale_of f m))) ∙ sym k.1

  pub small_digits : {m : ℕ} → Held f m → digits m < bound f
  small_digits {m} h = (div-lt_iff_lt-mul (unit_pos f (scale_of f m))).1 (below_bound f m (scale_of f m) (scaled f m) (held_le_top f h))

  -- a coefficient at a scale that needs it, in its range, is found again
  pub found : (c q : ℕ) → c < bound f → q ≤ f.scales → (q ≡ 0) ⊎ (f.lead ≤ c) → scale_of f (c * unit f q) ≡ q
  found c q l k n =
      scaled_one f (scaled f (c * unit f q))
      (record {
        within = k;
        enough = inl (mul-lt-mul_of_pos_right l (unit_pos f q));
        needed = elim n [ inl e ↦ inl e | inr h ↦ inr (mul-le-mul_right (unit f q) h) ];
      })

  pub code_of : (c q : ℕ) → c < bound f → q ≤ f.scales → (q ≡ 0) ⊎ (f.lead ≤ c) → code f (c * unit f q) ≡ q * f.lead + c
  unfolding code
  code_of c q l k n =
      let e : scale_of f (c * unit f q) ≡ q = found c q l k n in
      ap (λ (x : ℕ). x * f.lead + c * unit f q / unit f x) e ∙ ap (λ (x : ℕ). q * f.lead + x) (mul-div_cancel c (unit_pos f q))

  pub code_zero : code f 0 ≡ 0
  code_zero = ap (code f) (sym (zero-mul (unit f 0))) ∙ code_of 0 0 (omega (arith, f.three)) (omega arith) (inl refl) ∙ omega arith

  -- ---- the fields
  magnitude_at : (E F : ℕ) → F < f.lead → magnitude f (E * f.lead + F) ≡ cond (eqb E 0) F ((f.lead + F) * 2 ^ (E - 1))
  magnitude_at E F l = ap₂ (λ (x y : ℕ). cond (eqb x 0) y ((f.lead + y) * 2 ^ (x - 1))) (digits_div E l) (digits_mod E l)

  module _ (bin : f.radix ≡ 2) where
    pub bound_is : bound f ≡ f.lead + f.lead
    bound_is = ap (λ (x : ℕ). f.lead * x) bin ∙ omega arith

    pub unit_is : (q : ℕ) → unit f q ≡ 2 ^ q
    unit_is q = ap (λ (x : ℕ). x ^ q) bin

    -- a pattern is a coefficient and a scale
    pub magnitude_code : (c q : ℕ) → c < bound f → (q ≡ 0) ⊎ (f.lead ≤ c) → magnitude f (q * f.lead + c) ≡ c * unit f q
    magnitude_code c q l n =
        elim (dec_le f.lead c) [
          | yes g ↦
              let b : c < f.lead + f.lead = lt_of_lt_of_le l (le_of_eq bound_is) in
              let e : q * f.lead + c ≡ suc q * f.lead + (c - f.lead) = omega arith in
              ap (magnitude f) e
              ∙ magnitude_at (suc q) (c - f.lead) (omega arith)
              ∙ ap (λ (t : Bool). cond t (c - f.lead) ((f.lead + (c - f.lead)) * 2 ^ (suc q - 1))) (eqb-suc-zero q)
              ∙ ap₂ (λ (x y : ℕ). x * 2 ^ y) (add-sub_of_le g) (omega arith)
              ∙ ap (λ (x : ℕ). c * x) (sym (unit_is q))
          | no g ↦
              let z : q ≡ 0 = elim n [ inl e ↦ e | inr h ↦ absurd (g h) ] in
              ap (λ (x : ℕ). magnitude f (x * f.lead + c)) z
              ∙ magnitude_at 0 c (omega arith)
              ∙ sym (ap (λ (x : ℕ). c * unit f x) z ∙ ap (λ (x : ℕ). c * x) (pow-zero f.radix) ∙ mul-one c)
        ]

    -- the parts of a pattern: a coefficient and a scale that it needs
    pub record Parts (m : ℕ) : Type 0 where
      pub coefficient : ℕ
      pub scale : ℕ
      pub small : coefficient < bound f
      pub fits : scale ≤ f.scales
      pub needs : (scale ≡ 0) ⊎ (f.lead ≤ coefficient)
      pub is : m ≡ scale * f.lead + coefficient

    pub parts : (m : ℕ) → field_e f m < f.scales + 2 → Parts m
    parts m l = go (field_e f m) refl
      where
        r : m % f.lead < f.lead
        r = mod-lt m lead_pos

        d : m / f.lead * f.lead + m % f.lead ≡ m
        d = div-add-mod' m f.lead

        go : (E : ℕ) → m / f.lead ≡ E → Parts m
        go zero e =
            record {
              coefficient = m % f.lead;
              scale = 0;
              small = lt_of_lt_of_le r (le_of_lt (lead_lt f));
              fits = omega arith;
              needs = inl refl;
              is = sym d ∙ ap (λ (x : ℕ). x * f.lead + m % f.lead) e;
            }
        go (suc q) e =
            record {
              coefficient = f.lead + m % f.lead;
              scale = q;
              small = lt_of_lt_of_le (omega arith) (le_of_eq (sym bound_is));
              fits = omega arith;
              needs = inr (omega arith);
              is = sym d ∙ ap (λ (x : ℕ). x * f.lead + m % f.lead) e ∙ omega arith;
            }

    pub magnitude_held : (m : ℕ) → field_e f m < f.scales + 2 → Held f (magnitude f m)
    magnitude_held m l =
        let p = parts m l in
        record {
          coefficient = p.coefficient;
          scale = p.scale;
          small = p.small;
          fits = p.fits;
          is = ap (magnitude f) p.is ∙ magnitude_code p.coefficient p.scale p.small p.needs;
        }

    pub code_magnitude : (m : ℕ) → field_e f m < f.scales + 2 → code f (magnitude f m) ≡ m
    code_magnitude m l =
        let p = parts m l in
        ap (code f) (ap (magnitude f) p.is ∙ magnitude_code p.coefficient p.scale p.small p.needs)
        ∙ code_of p.coefficient p.scale p.small p.fits p.needs
        ∙ sym p.is

    -- what is held, in parts
    pub needs_digits : {m : ℕ} → Held f m → (scale_of f m ≡ 0) ⊎ (f.lead ≤ digits m)
    needs_digits {m} h =
        elim (scaled f m).needed [ inl e ↦ inl e | inr b ↦ inr ((le-div_iff_mul-le (unit_pos f (scale_of f m))).1 b) ]

    pub magnitude_of_code : {m : ℕ} → Held f m → magnitude f (code f m) ≡ m
    unfolding code
    magnitude_of_code {m} h = magnitude_code (digits m) (scale_of f m) (small_digits h) (needs_digits h) ∙ digits_is h

    pub code_finite : {m : ℕ} → Held f m → field_e f (code f m) < f.scales + 2
    unfolding code
    code_finite {m} h =
        let b : digits m < f.lead + f.lead = lt_of_lt_of_le (small_digits h) (le_of_eq bound_is) in
        let w : scale_of f m ≤ f.scales = (scaled f m).within in
        (div-lt_iff_lt-mul lead_pos).1 (omega (arith, mul-le-mul_right f.lead w))

    pub code_below : {m : ℕ} → Held f m → code f m < sign_bit f
    code_below {m} h = let a : code f m < (f.scales + 2) * f.lead = (div-lt_iff_lt-mul lead_pos).0 (code_finite h) in omega arith

    -- ---- with the sign
    pub plain : (p : ℕ) → p < sign_bit f → worth f p ≡ pos (magnitude f p)
    unfolding worth
    plain p l =
        ap (λ (t : Bool). cond t (pos (magnitude f (unsigned f p))) (neg_ℤ (pos (magnitude f (unsigned f p))))) (lt-ltb p (sign_bit f) l)
        ∙ ap (λ (x : ℕ). pos (magnitude f x)) (mod-eq_of_lt l)

    pub over : (x : ℕ) → x < sign_bit f → (sign_bit f + x) % sign_bit f ≡ x
    over x l = add-mod_left (sign_bit f) x ∙ mod-eq_of_lt l

    pub signed : (x : ℕ) → x < sign_bit f → worth f (sign_bit f + x) ≡ neg_ℤ (pos (magnitude f x))
    unfolding worth
    signed x l =
        let p = sign_bit f + x in
        ap (λ (t : Bool). cond t (pos (magnitude f (unsigned f p))) (neg_ℤ (pos (magnitude f (unsigned f p))))) (le-ltb p (sign_bit f) (omega arith))
        ∙ ap (λ (y : ℕ). neg_ℤ (pos (magnitude f y))) (over x l)

    pub number_out : (p : ℕ) → T (is_number f p) → (p < 2 * sign_bit f) × (field_e f (unsigned f p) < f.scales + 2)
    unfolding is_number
    number_out p t =
        let a = ltb p (2 * sign_bit f) in
        let b = ltb (field_e f (unsigned f p)) (f.scales + 2) in
        (ltb→lt p (2 * sign_bit f) (and_left a b t), ltb→lt (field_e f (unsigned f p)) (f.scales + 2) (and_right a b t))

    pub number_in : (p : ℕ) → p < 2 * sign_bit f → field_e f (unsigned f p) < f.scales + 2 → T (is_number f p)
    unfolding is_number
    number_in p a b = and_both (ltb p (2 * sign_bit f)) (ltb (field_e f (unsigned f p)) (f.scales + 2)) (lt→ltb p (2 * sign_bit f) a) (lt→ltb (field_e f (unsigned f p)) (f.scales + 2) b)

    -- a pattern is plain or signed
    pub split_sign : (p : ℕ) → p < 2 * sign_bit f → (p < sign_bit f) ⊎ ((x : ℕ) × (x < sign_bit f) × (p ≡ sign_bit f + x))
    split_sign p l = elim (dec_le (sign_bit f) p) [ yes h ↦ inr (p - sign_bit f, omega arith, omega arith) | no h ↦ inl (omega arith) ]

    pub worth_held : (p : ℕ) → T (is_number f p) → Holds f (worth f p)
    worth_held p t =
        let n = number_out p t in
        elim (split_sign p n.0) [
          | inl l ↦
              subst (λ (z : ℤ). Holds f z) (sym (plain p l)) (magnitude_held p (subst (λ (x : ℕ). field_e f x < f.scales + 2) (mod-eq_of_lt l) n.1))
          | inr x ↦
              let e : unsigned f p ≡ x.0 = ap (λ (y : ℕ). y % sign_bit f) x.2 ∙ over x.0 x.1 in
              let h : Held f (magnitude f x.0) = magnitude_held x.0 (subst (λ (y : ℕ). field_e f y < f.scales + 2) e n.1) in
              subst (λ (z : ℤ). Holds f z) (sym (ap (worth f) x.2 ∙ signed x.0 x.1)) (subst (Held f) (sym (abs_neg (pos (magnitude f x.0)))) h)
        ]

    pub pattern_number : (z : ℤ) → Holds f z → T (is_number f (pattern f z))
    unfolding pattern
    pattern_number (pos m) h =
        let b : code f m < sign_bit f = code_below h in
        number_in (code f m) (omega arith) (subst (λ (x : ℕ). field_e f x < f.scales + 2) (sym (mod-eq_of_lt b)) (code_finite h))
    pattern_number (negsuc m) h =
        let b : code f (suc m) < sign_bit f = code_below h in
        number_in (sign_bit f + code f (suc m)) (omega arith) (subst (λ (x : ℕ). field_e f x < f.scales + 2) (sym (over (code f (suc m)) b)) (code_finite h))

    pub worth_pattern : (z : ℤ) → Holds f z → worth f (pattern f z) ≡ z
    unfolding pattern
    worth_pattern (pos m) h = plain (code f m) (code_below h) ∙ ap pos (magnitude_of_code h)
    worth_pattern (negsuc m) h = signed (code f (suc m)) (code_below h) ∙ ap (λ (x : ℕ). neg_ℤ (pos x)) (magnitude_of_code h)

    pub pattern_zero : pattern f (pos 0) ≡ 0
    unfolding pattern
    pattern_zero = code_zero

    -- every pattern but the negative zero is that of its worth
    pub pattern_worth : (p : ℕ) → T (is_number f p) → p ≢ sign_bit f → pattern f (worth f p) ≡ p
    unfolding pattern
    pattern_worth p t d =
        let n = number_out p t in
        elim (split_sign p n.0) [
          | inl l ↦ ap (pattern f) (plain p l) ∙ code_magnitude p (subst (λ (x : ℕ). field_e f x < f.scales + 2) (mod-eq_of_lt l) n.1)
          | inr x ↦
              let e : unsigned f p ≡ x.0 = ap (λ (y : ℕ). y % sign_bit f) x.2 ∙ over x.0 x.1 in
              let c : code f (magnitude f x.0) ≡ x.0 = code_magnitude x.0 (subst (λ (y : ℕ). field_e f y < f.scales + 2) e n.1) in
              ap (λ (q : ℕ). pattern f (worth f q)) x.2 ∙ ap (pattern f) (signed x.0 x.1) ∙ go x.0 (magnitude f x.0) c (λ z. d (x.2 ∙ z)) ∙ sym x.2
        ]
      where
        go : (x m : ℕ) → code f m ≡ x → (sign_bit f + x ≡ sign_bit f → ⊥) → pattern f (neg_ℤ (pos m)) ≡ sign_bit f + x
        go x zero c w = absurd (w (ap (λ (y : ℕ). sign_bit f + y) (sym c ∙ code_zero) ∙ add-zero (sign_bit f)))
        go x (suc m) c w = ap (λ (y : ℕ). sign_bit f + y) c

    -- ---- so at a tie the nearest_ℕ number's pattern ends in a 0
    even_sum : (a b : ℕ) → a % 2 ≡ 0 → b % 2 ≡ 0 → (a + b) % 2 ≡ 0
    even_sum a b x y = omega arith

    even_times : (a b : ℕ) → b % 2 ≡ 0 → a * b % 2 ≡ 0
    even_times a b x =
        let g : b ≡ b / 2 * 2 = omega arith in
        ap (λ (y : ℕ). y % 2) (ap (λ (y : ℕ). a * y) g ∙ sym (mul_assoc a (b / 2) 2)) ∙ mul-mod_left (a * (b / 2)) 2

    even_code : f.lead % 2 ≡ 0 → (c q : ℕ) → c ≤ bound f → c * unit f q ≤ top f → q ≤ f.scales → (q ≡ 0) ⊎ (f.lead ≤ c) → c % 2 ≡ 0
        → code f (c * unit f q) % 2 ≡ 0
    even_code v c q l t k n e =
        elim (dec_le (suc c) (bound f)) [
          | yes b ↦ ap (λ (x : ℕ). x % 2) (code_of c q b k n) ∙ even_sum (q * f.lead) c (even_times q f.lead v) e
          | no b ↦
              let i : c ≡ bound f = omega arith in
              elim (dec_le (suc q) f.scales) [
                | yes j ↦
                    ap (λ (x : ℕ). code f x % 2) (ap (λ (x : ℕ). x * unit f q) i ∙ next f q)
                    ∙ ap (λ (x : ℕ). x % 2) (code_of f.lead (suc q) (lead_lt f) j (inr (le_refl f.lead)))
                    ∙ even_sum (suc q * f.lead) f.lead (even_times (suc q) f.lead v) v
                | no j ↦
                    let z : q ≡ f.scales = omega arith in
                    let a : top f < bound f * unit f q =
                    subst (λ (x : ℕ). (bound f - 1) * unit f x < bound f * unit f q) z (mul-lt-mul_of_pos_right (omega (arith, f.three)) (unit_pos f q)) in
                    let g : c * unit f q ≡ bound f * unit f q = ap (λ (x : ℕ). x * unit f q) i in
                    absurd (omega arith)
              ]
        ]

    -- the parts of a number whose scale is known
    known : (c q : ℕ) → Scaled f (c * unit f q) q → c * unit f q ≤ top f → (c < bound f) × ((q ≡ 0) ⊎ (f.lead ≤ c))
    known c q s t = (
      lt_of_mul-lt-mul_right (unit f q) (below_bound f (c * unit f q) q s t),
      elim s.needed [ inl e ↦ inl e | inr h ↦ inr (le_of_mul-le-mul_right h (unit_pos f q)) ],
    )

    pub nearest_ℕ_even : f.lead % 2 ≡ 0 → (m : ℕ) {w : ℕ} → Held f w → w ≢ nearest_ℕ f m → dist w m ≡ dist (nearest_ℕ f m) m → code f (nearest_ℕ f m) % 2 ≡ 0
    nearest_ℕ_even v m {w} h n e =
        let t = tie f m h n e in
        let u = unit f t.scale in
        let S : nearest_ℕ f m ≡ t.coefficient * u = t.chosen in
        let W : w ≡ t.other * u = t.second in
        let a : nearest_ℕ f m ≤ top f = held_le_top f (nearest_ℕ_held f m) in
        let b : w ≤ top f = held_le_top f h in
        let r : t.coefficient * u ≤ top f = le_trans (le_of_eq (sym S)) a in
        ap (λ (x : ℕ). code f x % 2) S
        ∙ elim t.step [
          | inl i ↦
              let l : t.other * u ≤ t.coefficient * u = mul-le-mul_right u (omega arith) in
              let z : min w (nearest_ℕ f m) ≡ t.other * u = omega arith in
              let k = known t.other t.scale (subst (λ (x : ℕ). Scaled f x t.scale) z t.scale_is) (le_trans (le_of_eq (sym W)) b) in
              even_code v t.coefficient t.scale (omega (arith, k.0)) r t.scale_is.within
              (elim k.1 [ inl q ↦ inl q | inr q ↦ inr (omega arith) ]) t.even
          | inr i ↦
              let l : t.coefficient * u ≤ t.other * u = mul-le-mul_right u (omega arith) in
              let z : min w (nearest_ℕ f m) ≡ t.coefficient * u = omega arith in
              let k = known t.coefficient t.scale (subst (λ (x : ℕ). Scaled f x t.scale) z t.scale_is) r in
              even_code v t.coefficient t.scale (le_of_lt k.0) r t.scale_is.within k.1 t.even
        ]

    -- and the other one's ends in a 1
    odd_code : f.lead % 2 ≡ 0 → (c q : ℕ) → c ≤ bound f → q ≤ f.scales → (q ≡ 0) ⊎ (f.lead ≤ c) → c % 2 ≡ 1 → code f (c * unit f q) % 2 ≡ 1
    odd_code v c q l k n o =
        let e : bound f % 2 ≡ 0 = ap (λ (x : ℕ). x % 2) bound_is ∙ even_sum f.lead f.lead v v in
        let b : c < bound f = omega arith in
        let t = even_times q f.lead v in
        ap (λ (x : ℕ). x % 2) (code_of c q b k n) ∙ omega arith

    pub nearest_ℕ_odd : f.lead % 2 ≡ 0 → (m : ℕ) {w : ℕ} → Held f w → w ≢ nearest_ℕ f m → dist w m ≡ dist (nearest_ℕ f m) m → code f w % 2 ≡ 1
    nearest_ℕ_odd v m {w} h n e =
        let t = tie f m h n e in
        let u = unit f t.scale in
        let S : nearest_ℕ f m ≡ t.coefficient * u = t.chosen in
        let W : w ≡ t.other * u = t.second in
        let a : nearest_ℕ f m ≤ top f = held_le_top f (nearest_ℕ_held f m) in
        let b : w ≤ top f = held_le_top f h in
        ap (λ (x : ℕ). code f x % 2) W
        ∙ elim t.step [
          | inl i ↦
              let l : t.other * u ≤ t.coefficient * u = mul-le-mul_right u (omega arith) in
              let z : min w (nearest_ℕ f m) ≡ t.other * u = omega arith in
              let k = known t.other t.scale (subst (λ (x : ℕ). Scaled f x t.scale) z t.scale_is) (le_trans (le_of_eq (sym W)) b) in
              odd_code v t.other t.scale (le_of_lt k.0) t.scale_is.within k.1 t.odd
          | inr i ↦
              let l : t.coefficient * u ≤ t.other * u = mul-le-mul_right u (omega arith) in
              let z : min w (nearest_ℕ f m) ≡ t.coefficient * u = omega arith in
              let k = known t.coefficient t.scale (subst (λ (x : ℕ). Scaled f x t.scale) z t.scale_is) (le_trans (le_of_eq (sym S)) a) in
              odd_code v t.other t.scale (omega (arith, k.0)) t.scale_is.within (elim k.1 [ inl q ↦ inl q | inr q ↦ inr (omega arith) ]) t.odd
        ]

    pub pattern_even : f.lead % 2 ≡ 0 → (v w : ℤ) → Holds f w → w ≢ nearest f v → far w v ≡ far (nearest f v) v → pattern f (nearest f v) % 2 ≡ 0
    unfolding pattern
    pattern_even e v w h n d =
        let t = tie_abs f v w n d in
        let c : code f (nat_abs (nearest f v)) % 2 ≡ 0 = subst (λ (x : ℕ). code f x % 2 ≡ 0) (sym (abs_nearest f v)) (nearest_ℕ_even e (nat_abs v) h t.0 t.1) in
        go (nearest f v) c
      where
        go : (s : ℤ) → code f (nat_abs s) % 2 ≡ 0 → pattern f s % 2 ≡ 0
        go (pos m) c = c
        go (negsuc m) c = even_sum (sign_bit f) (code f (suc m)) (ap (λ (x : ℕ). x % 2) (mul_comm f.lead (f.scales + 3)) ∙ even_times (f.scales + 3) f.lead e) c

    pub pattern_odd : f.lead % 2 ≡ 0 → (v w : ℤ) → Holds f w → w ≢ nearest f v → far w v ≡ far (nearest f v) v → pattern f w % 2 ≡ 1
    unfolding pattern
    pattern_odd e v w h n d =
        let t = tie_abs f v w n d in
        go w (nearest_ℕ_odd e (nat_abs v) h t.0 t.1)
      where
        go : (s : ℤ) → code f (nat_abs s) % 2 ≡ 1 → pattern f s % 2 ≡ 1
        go (pos m) c = c
        go (negsuc m) c = let t : sign_bit f % 2 ≡ 0 = ap (λ (x : ℕ). x % 2) (mul_comm f.lead (f.scales + 3)) ∙ even_times (f.scales + 3) f.lead e in omega arith

    pub patterns : f.lead % 2 ≡ 0 → BinaryPatterns f
    patterns e =
        record {
          coded = pattern_number;
          back = worth_pattern;
          there = pattern_worth;
          zeros = (plain 0 sign_pos ∙ ap pos none, ap (worth f) (sym (add-zero (sign_bit f))) ∙ signed 0 sign_pos ∙ ap (λ (x : ℕ). neg_ℤ (pos x)) none);
          even = λ v w h n d. (pattern_even e v w h n d, pattern_odd e v w h n d);
        }
      where
        none : magnitude f 0 ≡ 0
        none = ap (magnitude f) (sym code_zero) ∙ magnitude_of_code (held_zero f)

    -- so a binary coding owes nothing more
    pub codes : top f < 2 ^ 2098 → Codes (binary f)
    codes l = record { held = worth_held; made = pattern_number; back = worth_pattern; none = pattern_zero; low = l }
