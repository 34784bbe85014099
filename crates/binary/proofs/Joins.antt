-- The adder's steps.
use Rattle.std.proofs.Common.{◌≡◌, ℕ, suc, ◌+◌, ◌-◌, ◌*◌, ◌%◌, ◌^◌, ◌<◌, ◌≤◌, Bool, ℤ, pos, ◌*ℤ◌, ◌+ℤ◌, ◌-ℤ◌, nat_abs, sym, ap, ◌∙◌, subst, ap₂, inl, inr, le_trans, le_of_eq, lt_of_lt_of_le, mod-eq_of_lt, mul_assoc, arith, pow_mono, pow-add}
use borrow.Author.Differences.{ints}
use lib.Signed.{lt_z}
use Rattle.std.proofs.lemmas.Nat.{shl_below}
use Rattle.numbers.specs.Format.{Format, unit, Held, Holds}
use Rattle.numbers.specs.Nearest.{nearest_ℕ, nearest}
use Rattle.numbers.specs.Binary.{code, pattern, sign_bit}
use Rattle.numbers.proofs.Nearest.{nearest_ℕ_held}
use Rattle.numbers.proofs.Signed.{nearest_of_held}
use Rattle.numbers.proofs.Adding.{absorbed}
use Rattle.numbers.proofs.Binary.{lead_pos, code_of, unit_is}
use Rattle.register.specs.Wrap.{signed_by, scaled}
use Rattle.binary.specs.Layout.{Layout, signed_code, nearest_of, Settled}
use Rattle.register.specs.Value.{meant}
use Rattle.binary.specs.Canonical.{Canonical}
use Rattle.register.specs.declared.scaled.Scaled.{Scaled as Number}
use Rattle.binary.proofs.Nearby.{bound_two, bound_twice, scale_fits}
use Rattle.binary.proofs.Signs.{abs_signed, sum_times, difference_times, signed_times, in_units, nearest_signed, pattern_signed}

module _ (f : Format) (k : ℕ) (lay : Layout f k) where
  -- ---- a magnitude settled
  pub sum_is : (negative : Bool) (M c s : ℕ) → c ≡ code f (nearest_ℕ f M) → s ≡ signed_code f negative c → s ≡ nearest_of f (signed_by negative M)
  sum_is negative M c s a b =
      b
      ∙ ap (signed_code f negative) a
      ∙ sym (pattern_signed f lay.binary negative (nearest_ℕ f M) (nearest_ℕ_held f M))
      ∙ ap (pattern f) (sym (nearest_signed f negative M))

  pub pattern_is : (v : ℤ) (u c s : ℕ) → c ≡ code f (nearest_ℕ f (nat_abs v * u)) → s ≡ signed_code f (lt_z v (pos 0)) c → s ≡ nearest_of f (v *ℤ pos u)
  pattern_is v u c s a b = sum_is (lt_z v (pos 0)) (nat_abs v * u) c s a b ∙ ap (nearest_of f) (sym (in_units v u))

  pub rest_is : (v z : ℤ) (u n : ℕ) → n * u ≡ nearest_ℕ f (nat_abs v * u) → z ≡ v -ℤ signed_by (lt_z v (pos 0)) n → z *ℤ pos u ≡ v *ℤ pos u -ℤ nearest f (v *ℤ pos u)
  rest_is v z u n a b =
      let t = lt_z v (pos 0) in
      ap (λ (w : ℤ). w *ℤ pos u) b
      ∙ difference_times v (signed_by t n) u
      ∙ ap (λ (w : ℤ). v *ℤ pos u -ℤ w) (signed_times t n u ∙ ap (signed_by t) a ∙ sym (nearest_signed f t (nat_abs v * u)) ∙ ap (nearest f) (sym (in_units v u)))

  -- ---- worths
  held : (w : Number) → Canonical f w.magnitude w.shift → Held f (w.magnitude * 2 ^ w.shift)
  held w c =
      record {
        coefficient = w.magnitude;
        scale = w.shift;
        small = c.small;
        fits = c.within;
        is = ap (λ (x : ℕ). w.magnitude * x) (sym (unit_is f lay.binary w.shift));
      }

  pub worth_held : (w : Number) → Canonical f w.magnitude w.shift → Holds f (meant w)
  worth_held w c = subst (Held f) (sym (abs_signed w.negative (w.magnitude * 2 ^ w.shift))) (held w c)

  module _ (n : Bool) (m q l r : ℕ) (c : Canonical f m q) (e : l ≡ f.lead) where
    as_is : q * l + m ≡ q * f.lead + m
    as_is = ap (λ (x : ℕ). q * x + m) e

    pub written_below : q * l + m < sign_bit f
    written_below = omega (arith, as_is, scale_fits f k lay q c.within, c.small, bound_twice f k lay, lead_pos f)

    pub written_fits : q * l + m < 2 ^ 64
    written_fits = omega (arith, written_below, lay.word)

    pub written_is : r ≡ signed_code f n (q * l + m) → r ≡ pattern f (scaled n m q)
    written_is h =
        let w : Number = record { negative = n; magnitude = m; shift = q; low = omega (arith, c.within, lay.short) } in
        let z : code f (m * 2 ^ q) ≡ q * l + m = ap (λ (x : ℕ). code f (m * x)) (sym (unit_is f lay.binary q)) ∙ code_of f m q c.small c.within c.needs ∙ sym as_is in
        h ∙ ap (signed_code f n) (sym z) ∙ sym (pattern_signed f lay.binary n (m * 2 ^ q) (held w c))

  module _ (x y : Number) (w : ℕ) (cx : Canonical f x.magnitude x.shift) (cy : Canonical f y.magnitude y.shift) (e_w : w ≡ k) where
    -- ---- far apart
    absorbs : w + 2 < x.shift - y.shift → nearest f (meant x +ℤ meant y) ≡ meant x
    absorbs h =
        let q = x.shift - 1 in
        let i : x.shift ≡ suc q = omega arith in
        let n : f.lead ≤ x.magnitude = elim cx.needs [ inl z ↦ absurd (omega arith) | inr z ↦ z ] in
        let a : nat_abs (meant x) ≡ x.magnitude * unit f (suc q) =
        abs_signed x.negative (x.magnitude * 2 ^ x.shift) ∙ ap (λ (z : ℕ). x.magnitude * z) (ap (λ (z : ℕ). 2 ^ z) i ∙ sym (unit_is f lay.binary (suc q))) in
        let b : nat_abs (meant y) ≡ y.magnitude * 2 ^ y.shift = abs_signed y.negative (y.magnitude * 2 ^ y.shift) in
        let s : y.magnitude * 2 ^ y.shift < 2 ^ (suc k + y.shift) = shl_below y.magnitude (suc k) y.shift (lt_of_lt_of_le cy.small (le_of_eq (bound_two f k lay))) in
        let j : suc k + y.shift + 1 ≤ q = omega arith in
        let t : 2 ^ (suc k + y.shift + 1) ≡ 2 ^ (suc k + y.shift) * 2 ^ 1 = pow-add 2 (suc k + y.shift) 1 in
        let m : 2 ^ (suc k + y.shift + 1) ≤ 2 ^ q = pow_mono j in
        let u : unit f q ≡ 2 ^ q = unit_is f lay.binary q in
        absorbed f (meant x) (meant y) x.magnitude q cx.small n (omega (arith, cx.within)) a (omega arith)

    pub far_apart : (s r : ℕ) → w + 2 < x.shift - y.shift → s ≡ pattern f (meant x) → r ≡ pattern f (meant y) → Settled f (meant x +ℤ meant y) s r
    far_apart s r h a b =
        let e = absorbs h in
        let d : (meant x +ℤ meant y) -ℤ nearest f (meant x +ℤ meant y) ≡ meant y =
        ap (λ (z : ℤ). (meant x +ℤ meant y) -ℤ z) e ∙ omega (arith, ints) in
        record { sum = a ∙ ap (pattern f) (sym e); rest = b ∙ ap (pattern f) (sym (nearest_of_held f (meant y) (worth_held y cy)) ∙ ap (nearest f) (sym d)) }

    -- ---- near
    module _ (order : y.shift ≤ x.shift) (near : x.shift - y.shift ≤ w + 2) where
      big_small : x.magnitude * 2 ^ (x.shift - y.shift) < 2 ^ 107
      big_small =
          let a = shl_below x.magnitude (suc k) (x.shift - y.shift) (lt_of_lt_of_le cx.small (le_of_eq (bound_two f k lay))) in
          let i : suc k + (x.shift - y.shift) ≤ 107 = omega (arith, lay.narrow) in
          lt_of_lt_of_le a (pow_mono i)

      big_is : (x.magnitude * 2 ^ (x.shift - y.shift)) % 2 ^ 128 ≡ x.magnitude * 2 ^ (x.shift - y.shift)
      big_is = mod-eq_of_lt (let h : x.magnitude * 2 ^ (x.shift - y.shift) < 2 ^ 128 = omega (arith, big_small) in h)

      little : y.magnitude < 2 ^ 53
      little = let i : suc k ≤ 53 = omega (arith, lay.narrow) in lt_of_lt_of_le cy.small (le_trans (le_of_eq (bound_two f k lay)) (pow_mono i))

      pub small : (x.magnitude * 2 ^ (x.shift - y.shift)) % 2 ^ 128 + y.magnitude < 2 ^ 108
      small = omega (arith, big_is, big_small, little)

      lined : (b : ℕ) → b ≡ x.magnitude * 2 ^ (x.shift - y.shift) → b * 2 ^ y.shift ≡ x.magnitude * 2 ^ x.shift
      lined b eb =
          ap (λ (z : ℕ). z * 2 ^ y.shift) eb
          ∙ mul_assoc x.magnitude (2 ^ (x.shift - y.shift)) (2 ^ y.shift)
          ∙ ap (λ (z : ℕ). x.magnitude * z) (sym (pow-add 2 (x.shift - y.shift) y.shift) ∙ ap (λ (z : ℕ). 2 ^ z) (let e : x.shift - y.shift + y.shift ≡ x.shift = omega arith in e))

      in_units_of : (s : ℤ) → s ≡ signed_by x.negative ((x.magnitude * 2 ^ (x.shift - y.shift)) % 2 ^ 128) +ℤ signed_by y.negative y.magnitude → s *ℤ pos (2 ^ y.shift) ≡ meant x +ℤ meant y
      in_units_of s e =
          let u = 2 ^ y.shift in
          let b = (x.magnitude * 2 ^ (x.shift - y.shift)) % 2 ^ 128 in
          ap (λ (z : ℤ). z *ℤ pos u) e
          ∙ sum_times (signed_by x.negative b) (signed_by y.negative y.magnitude) u
          ∙ ap₂ ◌+ℤ◌ (signed_times x.negative b u ∙ ap (signed_by x.negative) (lined b big_is)) (signed_times y.negative y.magnitude u)

      pub summed : (s : ℤ) (a b : ℕ) → Settled f (s *ℤ pos (2 ^ y.shift)) a b → s ≡ signed_by x.negative ((x.magnitude * 2 ^ (x.shift - y.shift)) % 2 ^ 128) +ℤ signed_by y.negative y.magnitude
          → Settled f (meant x +ℤ meant y) a b
      summed s a b h e = subst (λ (v : ℤ). Settled f v a b) (in_units_of s e) h

pub ruleset writes = (written_below, written_fits, written_is)
