-- A number in limbs, split at a limb and at a bit.
use Rattle.std.proofs.Common.{◌≡◌, ℕ, zero, suc, ◌+◌, ◌-◌, ◌*◌, ◌/◌, ◌%◌, ◌^◌, ◌<◌, ◌≤◌, Bool, true, false, cond, ltb, List, [], ◌∷◌, get_or, length, take, drop, length-take, length-drop, pos, negsuc, ◌-ℤ◌, neg_ℤ, nat_abs, sym, refl, ap, ◌∙◌, subst, ⊎_elim, zero-le, add-zero, mul-le-mul_right, mod-eq_of_lt, mul_assoc, suc-mul, mul_comm, add-one, arith, pow_pos, pow_mono, pow-add, shr-shr, ltb-false, ltb-true, le-ltb, lt-ltb}
use native.Mathlib.Nat.{zero-mod, mul-add-mod_self_right}
use lib.Arith.{digits_div, digits_mod, digits_lt}
use lib.Count.{count_leading_zeros}
use lib.Pow.{mod-pow-add, mod-mod-pow, field}
use lib.Signed.{lt_z}
use lib.IntN.{+ℤ_idl}
use Rattle.std.proofs.lemmas.Nat.{leading_top, one_shl}
use Rattle.std.proofs.lemmas.List.{drop_all, get_or-take, get_or-drop}
use Rattle.std.proofs.lemmas.Bool.{cases_lt}
use Rattle.register.specs.Value.{value, bits}
use Rattle.register.specs.Sum.{register_of, zero_register}
use Rattle.register.specs.Laws.{value_register_of, value_zero}
use Rattle.register.specs.Limbs.{nat_of, LeastBits}
use Rattle.register.specs.Wrap.{half, residue, signed_at, wrap_at, wrap, value_of}
use Rattle.register.specs.declared.Register.{Register}
use Rattle.register.specs.Places.{weight_suc, front_lt, nat_of_take}
use Rattle.register.specs.Whole.{limb, half_pos, whole_lt}
use Rattle.register.specs.Wrapping.{residue_lt, residue_signed}

pub whole_split : (xs : List ℕ) (i : ℕ) → nat_of xs ≡ nat_of (drop i xs) * 2 ^ (64 * i) + nat_of (take i xs)
whole_split xs zero = omega arith
whole_split [] (suc i) = omega arith
whole_split (x ∷ xs) (suc i) = rw (weight_suc i) (omega (arith, whole_split xs i))

back_more : (xs : List ℕ) (i : ℕ) → nat_of (drop i xs) ≡ get_or xs i 0 + 2 ^ 64 * nat_of (drop (i + 1) xs)
back_more xs i = rw add-one (go xs i)
  where
    go : (xs : List ℕ) (i : ℕ) → nat_of (drop i xs) ≡ get_or xs i 0 + 2 ^ 64 * nat_of (drop (suc i) xs)
    go [] zero = refl
    go [] (suc i) = refl
    go (x ∷ xs) zero = refl
    go (x ∷ xs) (suc i) = go xs i

-- limbs with no bit
no_limbs : (xs : List ℕ) → ((k : ℕ) → k < length xs → get_or xs k 0 ≡ 0) → nat_of xs ≡ 0
no_limbs [] h = refl
no_limbs (x ∷ xs) h = omega (arith, h 0 (omega arith), no_limbs xs (λ k l. h (suc k) (omega arith)))

-- a weight w that no tactic computes
top_below : (n x f w h : ℕ) → n ≡ x * w + f → h ≡ 2 ^ 63 * w → n < h → x ≤ 0x7fff_ffff_ffff_ffff
top_below n x f w h e is l = ⊎_elim (λ k. omega arith) (λ k. absurd (omega (arith, mul-le-mul_right w k))) (cases_lt x (2 ^ 63))

top_from : (n x f w h : ℕ) → n ≡ x * w + f → f < w → h ≡ 2 ^ 63 * w → h ≤ n → 0x7fff_ffff_ffff_ffff < x
top_from n x f w h e small is l = ⊎_elim (λ k. absurd (omega (arith, mul-le-mul_right w k))) (λ k. omega arith) (cases_lt x (2 ^ 63))

-- the low bits of a number, whatever stands above them
low_same : (high low m j : ℕ) → j ≤ m → (high * 2 ^ m + low) % 2 ^ j ≡ low % 2 ^ j
low_same high low m j h =
    let both : 2 ^ m ≡ 2 ^ (m - j) * 2 ^ j = ap (λ n. 2 ^ n) (omega arith) ∙ pow-add 2 (m - j) j in
    ap (λ w. (high * w + low) % 2 ^ j) both ∙ ap (λ n. (n + low) % 2 ^ j) (sym (mul_assoc high (2 ^ (m - j)) (2 ^ j))) ∙ mul-add-mod_self_right (high * 2 ^ (m - j)) (2 ^ j) low

some_same : (y w f : ℕ) → f ≡ 0 → 0 < w → ltb 0 y ≡ ltb 0 (y * w + f)
some_same zero w f e l = sym (le-ltb 0 (0 * w + f) (omega arith))
some_same (suc y) w f e l = lt-ltb 0 (suc y) (omega arith) ∙ sym (lt-ltb 0 (suc y * w + f) (omega (arith, suc-mul y w)))

module _ (r : Register) where
  back_is : (i : ℕ) → bits r / 2 ^ (64 * i) ≡ nat_of (drop i r.limbs)
  back_is i = ap (λ n. n / 2 ^ (64 * i)) (whole_split r.limbs i) ∙ digits_div (nat_of (drop i r.limbs)) (front_lt r.limbs i r.small)

  front_is : (i : ℕ) → bits r % 2 ^ (64 * i) ≡ nat_of (take i r.limbs)
  front_is i = ap (λ n. n % 2 ^ (64 * i)) (whole_split r.limbs i) ∙ digits_mod (nat_of (drop i r.limbs)) (front_lt r.limbs i r.small)

  -- the highest limb
  top_is : bits r ≡ limb r 33 * 2 ^ (64 * 33) + nat_of (take 33 r.limbs)
  top_is =
      let none : drop 34 r.limbs ≡ [] = drop_all 34 r.limbs (omega (arith, r.long)) in
      let last : nat_of (drop 33 r.limbs) ≡ limb r 33 = back_more r.limbs 33 ∙ ap (λ l. limb r 33 + 2 ^ 64 * nat_of l) none ∙ add-zero (limb r 33) in
      whole_split r.limbs 33 ∙ ap (λ n. n * 2 ^ (64 * 33) + nat_of (take 33 r.limbs)) last

  pub negative_is : ltb 0x7fff_ffff_ffff_ffff (limb r 33) ≡ lt_z (value_of r.limbs) (pos 0)
  unfolding signed_at half
  negative_is = by (ltb (bits r) half) refl
    where
      by : (t : Bool) → ltb (bits r) half ≡ t → ltb 0x7fff_ffff_ffff_ffff (limb r 33) ≡ lt_z (cond t (pos (bits r)) (negsuc (2 * half - suc (bits r)))) (pos 0)
      by true e = le-ltb _ _ (top_below (bits r) (limb r 33) (nat_of (take 33 r.limbs)) (2 ^ (64 * 33)) half top_is refl (ltb-true (bits r) half e)) ∙ sym (le-ltb (bits r) 0 zero-le)
      by false e = lt-ltb _ _ (top_from (bits r) (limb r 33) (nat_of (take 33 r.limbs)) (2 ^ (64 * 33)) half top_is (front_lt r.limbs 33 r.small) refl (ltb-false (bits r) half e))

  -- what is not negative is its own magnitude
  pub magnitude_same : lt_z (value_of r.limbs) (pos 0) ≡ false → bits r ≡ nat_abs (value_of r.limbs)
  unfolding signed_at
  magnitude_same = by (ltb (bits r) half) refl
    where
      by : (t : Bool) → ltb (bits r) half ≡ t → lt_z (cond t (pos (bits r)) (negsuc (2 * half - suc (bits r)))) (pos 0) ≡ false → bits r ≡ nat_abs (cond t (pos (bits r)) (negsuc (2 * half - suc (bits r))))
      by true e n = refl
      by false e n = absurd (let z : ◌≡◌ {A = ℕ} 0 1 = cc in omega arith)

  -- what is taken away from 0 is the magnitude of what is negative
  pub magnitude_opposite : lt_z (value_of r.limbs) (pos 0) ≡ true → bits (register_of (value zero_register -ℤ value r)) ≡ nat_abs (value_of r.limbs)
  unfolding signed_at wrap_at residue
  magnitude_opposite n =
      let opposite = register_of (value zero_register -ℤ value r) in
      let is : value opposite ≡ wrap (neg_ℤ (value r)) = value_register_of _ ∙ ap (λ z. wrap (z -ℤ value r)) value_zero ∙ ap wrap (+ℤ_idl (neg_ℤ (value r))) in
      sym (residue_signed half half_pos (bits opposite) (whole_lt opposite)) ∙ ap (residue (2 * half)) is
      ∙ residue_signed half half_pos (residue (2 * half) (neg_ℤ (value r))) (residue_lt half half_pos (neg_ℤ (value r))) ∙ by (ltb (bits r) half) refl n
    where
      by : (t : Bool) → ltb (bits r) half ≡ t → lt_z (cond t (pos (bits r)) (negsuc (2 * half - suc (bits r)))) (pos 0) ≡ true → residue (2 * half) (neg_ℤ (cond t (pos (bits r)) (negsuc (2 * half - suc (bits r))))) ≡ nat_abs (cond t (pos (bits r)) (negsuc (2 * half - suc (bits r))))
      by true e n = absurd (let z = ltb-true (bits r) 0 n in omega arith)
      by false e n = mod-eq_of_lt (let above = ltb-false (bits r) half e in let some = half_pos in omega arith)

  -- 64 bits from a bit on, out of two limbs
  pub window_is : (at : ℕ) → bits r / 2 ^ at % 2 ^ 64 ≡ (limb r (at / 64) + limb r (at / 64 + 1) * 2 ^ 64 % 2 ^ 128) / 2 ^ (at % 64) % 2 ^ 64
  window_is at =
      let i = at / 64 in
      let k = at % 64 in
      let pair = limb r i + limb r (i + 1) * 2 ^ 64 in
      let rest = nat_of (drop (i + 1 + 1) r.limbs) in
      let short : k < 64 = omega arith in
      let back : bits r / 2 ^ (64 * i) ≡ rest * 2 ^ 128 + pair = back_is i ∙ omega (arith, back_more r.limbs i, back_more r.limbs (i + 1)) in
      let whole : bits r / 2 ^ at ≡ (rest * 2 ^ 128 + pair) / 2 ^ k = ap (λ n. bits r / 2 ^ n) (omega arith) ∙ sym (shr-shr (bits r) (64 * i) k) ∙ ap (λ n. n / 2 ^ k) back in
      let fits : limb r (i + 1) * 2 ^ 64 % 2 ^ 128 ≡ limb r (i + 1) * 2 ^ 64 = mod-eq_of_lt (omega (arith, r.small (i + 1))) in
      ap (λ n. n % 2 ^ 64) whole ∙ sym (field (rest * 2 ^ 128 + pair) 64 k) ∙ ap (λ n. n / 2 ^ k) (low_same rest pair 128 (64 + k) (omega arith)) ∙ field pair 64 k
      ∙ ap (λ n. (limb r i + n) / 2 ^ k % 2 ^ 64) (sym fits)

  pub none_below : (at : ℕ) → ((k : ℕ) → k < at / 64 → k < 34 → limb r k ≡ 0) → ltb 0 (limb r (at / 64) % (1 * 2 ^ (at % 64) % 2 ^ 64)) ≡ ltb 0 (bits r % 2 ^ at)
  none_below at none =
      let i = at / 64 in
      let k = at % 64 in
      let short : k < 64 = omega arith in
      let rest = nat_of (drop (i + 1) r.limbs) in
      let back : bits r / 2 ^ (64 * i) ≡ rest * 2 ^ 64 + limb r i = back_is i ∙ omega (arith, back_more r.limbs i) in
      let low : bits r / 2 ^ (64 * i) % 2 ^ k ≡ limb r i % 2 ^ k = ap (λ n. n % 2 ^ k) back ∙ low_same rest (limb r i) 64 k (omega arith) in
      let whole : bits r % 2 ^ at ≡ limb r i % 2 ^ k * 2 ^ (64 * i) + bits r % 2 ^ (64 * i) = ap (λ n. bits r % 2 ^ n) (omega arith) ∙ mod-pow-add (bits r) k (64 * i) ∙ ap (λ n. n * 2 ^ (64 * i) + bits r % 2 ^ (64 * i)) low in
      let front : nat_of (take i r.limbs) ≡ 0 = no_limbs _ (λ j l. let below : (j < i) × (j < 34) = (omega (arith, l, r.long, length-take {A = ℕ}), omega (arith, l, r.long, length-take {A = ℕ})) in get_or-take i r.limbs j 0 below.0 ∙ none j below.0 below.1) in
      ap (λ m. ltb 0 (limb r i % m)) (one_shl k 64 short) ∙ some_same (limb r i % 2 ^ k) (2 ^ (64 * i)) (bits r % 2 ^ (64 * i)) (front_is i ∙ front) (pow_pos (64 * i)) ∙ ap (ltb 0) (sym whole)

  pub some_below : (at i : ℕ) → i < at / 64 → i < 34 → 0 < limb r i → ltb 0 (bits r % 2 ^ at) ≡ true
  some_below at i h l some =
      let k = 64 * (i + 1) in
      let front = front_is (i + 1) ∙ nat_of_take r.limbs i in
      let least = mul-le-mul_right (2 ^ (64 * i)) some in
      let one = pow_pos (64 * i) in
      let same : bits r % 2 ^ at % 2 ^ k ≡ bits r % 2 ^ k = ap (λ n. bits r % 2 ^ n % 2 ^ k) (omega arith) ∙ mod-mod-pow (bits r) (at - k) k in
      lt-ltb 0 _ (⊎_elim (λ y. y) (λ y. absurd (let zero_is : bits r % 2 ^ at ≡ 0 = omega arith in let gone = ap (λ n. n % 2 ^ k) zero_is ∙ zero-mod (2 ^ k) in omega (arith, gone, same, front, least, one))) (cases_lt 0 (bits r % 2 ^ at)))

  bits_are : (i j : ℕ) → nat_of (drop (i + 1) r.limbs) ≡ 0 → 2 ^ j ≤ limb r i → limb r i < 2 ^ (j + 1) → LeastBits (bits r) (64 * i + (j + 1))
  bits_are i j none low high =
      let f = nat_of (take i r.limbs) in
      let w = 2 ^ (64 * i) in
      let last : nat_of (drop i r.limbs) ≡ limb r i = omega (arith, back_more r.limbs i) in
      let is : bits r ≡ limb r i * w + f = whole_split r.limbs i ∙ ap (λ n. n * w + f) last in
      let top : 2 ^ (64 * i + (j + 1)) ≡ 2 ^ (j + 1) * w = pow-add 2 (64 * i) (j + 1) ∙ mul_comm w (2 ^ (j + 1)) in
      let bottom : 2 ^ (64 * i + j) ≡ 2 ^ j * w = pow-add 2 (64 * i) j ∙ mul_comm w (2 ^ j) in
      let below : limb r i * w + f < 2 ^ (j + 1) * w = digits_lt high (front_lt r.limbs i r.small) in
      let above = mul-le-mul_right w low in
      record {
        enough = omega (arith, is, top, below);
        least = λ q fits. ⊎_elim (λ k. omega (arith, k)) (λ k. absurd (omega (arith, fits, is, bottom, above, pow_mono {i = q} {j = 64 * i + j} k))) (cases_lt (64 * i + j) q);
      }

  -- the highest limb with a bit
  pub bits_top : (i : ℕ) → ((k : ℕ) → i < k → k < 34 → limb r k ≡ 0) → 0 < limb r i → LeastBits (bits r) (64 * i + (64 - count_leading_zeros 64 (limb r i)))
  bits_top i none some =
      let t = leading_top 64 (limb r i) some (r.small i) in
      let length : t.0 + 1 ≡ 64 - count_leading_zeros 64 (limb r i) = omega (arith, t.1) in
      let back : nat_of (drop (i + 1) r.limbs) ≡ 0 = no_limbs _ (λ j l. get_or-drop (i + 1) r.limbs j 0 ∙ none (i + 1 + j) (omega arith) (omega (arith, l, r.long, length-drop {A = ℕ}))) in
      subst (λ n. LeastBits (bits r) (64 * i + n)) length (bits_are i t.0 back t.2 (rw add-one t.3))

  pub no_bits : ((k : ℕ) → k < 34 → limb r k ≡ 0) → LeastBits (bits r) 0
  no_bits none = let zero_is = no_limbs r.limbs (λ k l. none k (omega (arith, l, r.long))) in record { enough = omega arith; least = λ q fits. zero-le }
