-- The laws of two's complement, for any number of bits.
use Rattle.std.specs.Prelude.{◌≡◌, ℕ, suc, ◌+◌, ◌-◌, ◌*◌, ◌/◌, ◌%◌, ◌<◌, ◌≤◌, Bool, true, false, cond, ℤ, pos, negsuc, ◌+ℤ◌, nat_lt, unsigned_abs}
use Rattle.std.proofs.Math.Path.{refl, sym, ap}
use Rattle.std.proofs.Common.{◌∙◌, ⊎_elim, mul-le-mul_left, mul-le-mul_right, lt-ltb, le-ltb}
use native.Mathlib.Omega.{arith}
use Rattle.std.proofs.Math.Nat.{add-mul-mod_self_right, div-add-mod', mod-eq_of_lt, mod-lt}
use Rattle.std.proofs.lemmas.Bool.{cases_lt}
use Rattle.std.proofs.Math.Arith.{digits_mod}
use borrow.Author.Differences.{up, down}
use Rattle.std.proofs.lemmas.Int.{ints}
use Rattle.register.specs.Wrap.{residue, signed_at, wrap_at}

opposite : (a n k m : ℕ) → 0 < n → m + suc a ≡ k * n → n - 1 - a % n ≡ m % n
opposite a n k m p e =
    let split = div-add-mod' a n in
    let small = mod-lt a p in
    let more : a / n < k = ⊎_elim (λ l. l) (λ l. absurd (omega (arith, mul-le-mul_right n l))) (cases_lt (a / n) k) in
    let j = k - suc (a / n) in
    let sum : k ≡ suc (a / n) + j = omega arith in
    let times = ap (λ x. x * n) sum in
    let is : m ≡ j * n + (n - 1 - a % n) = omega arith in
    sym (ap (λ x. x % n) is ∙ digits_mod j (omega arith))

residue_is : (z : ℤ) (n k m : ℕ) → 0 < n → z +ℤ pos (k * n) ≡ pos m → residue n z ≡ m % n
unfolding residue
residue_is (pos a) n k m p e = let is : a + k * n ≡ m = ap unsigned_abs e in sym (add-mul-mod_self_right a k n) ∙ ap (λ x. x % n) is
residue_is (negsuc a) n k m p e = opposite a n k m p (omega (arith, ints))

-- numbers that differ by a multiple of n
pub residue_same : (n : ℕ) (a b : ℤ) (j k : ℕ) → 0 < n → a +ℤ pos (j * n) ≡ b +ℤ pos (k * n) → residue n a ≡ residue n b
residue_same n a b j k some e =
    let t = down a + down b in
    let far : t * 1 ≤ t * n = mul-le-mul_left t some in
    let m = up a + (j + t) * n - down a in
    residue_is a n (j + t) m some (omega (arith, ints)) ∙ sym (residue_is b n (k + t) m some (omega (arith, ints)))

module _ (h : ℕ) (some : 0 < h) where
  -- how many times 2 * h the signed value of n lies below it
  pub read : (n : ℕ) → n < 2 * h → (j : ℕ) × (signed_at h n +ℤ pos (j * (2 * h)) ≡ pos n)
  unfolding signed_at
  read n l = by (nat_lt n h) refl
    where
      by : (t : Bool) → nat_lt n h ≡ t → (j : ℕ) × (cond t (pos n) (negsuc (2 * h - suc n)) +ℤ pos (j * (2 * h)) ≡ pos n)
      by true e = (0, omega (arith, ints))
      by false e = (1, omega (arith, ints))

  pub wrap_same : (a b : ℤ) (j k : ℕ) → a +ℤ pos (j * (2 * h)) ≡ b +ℤ pos (k * (2 * h)) → wrap_at h a ≡ wrap_at h b
  unfolding wrap_at
  wrap_same a b j k e = ap (signed_at h) (residue_same (2 * h) a b j k (omega arith) e)

  pub wrap_is : (z : ℤ) (r j k : ℕ) → r < 2 * h → z +ℤ pos (j * (2 * h)) ≡ pos r +ℤ pos (k * (2 * h)) → signed_at h r ≡ wrap_at h z
  unfolding wrap_at residue
  wrap_is z r j k l e = sym (ap (signed_at h) (residue_same (2 * h) z (pos r) j k (omega arith) e ∙ mod-eq_of_lt l))

  -- r is what is left of a and z
  pub wrap_sum : (a : ℕ) (z : ℤ) (r j k : ℕ) → a < 2 * h → r < 2 * h → pos a +ℤ z +ℤ pos (j * (2 * h)) ≡ pos r +ℤ pos (k * (2 * h)) → signed_at h r ≡ wrap_at h (signed_at h a +ℤ z)
  wrap_sum a z r j k la lr e =
      let s = read a la in
      wrap_is (signed_at h a +ℤ z) r (s.0 + j) k lr (omega (arith, ints, s.1))

  pub residue_lt : (z : ℤ) → residue (2 * h) z < 2 * h
  unfolding residue
  residue_lt (pos a) = mod-lt a (omega arith)
  residue_lt (negsuc a) = omega arith

  pub residue_signed : (n : ℕ) → n < 2 * h → residue (2 * h) (signed_at h n) ≡ n
  unfolding residue
  residue_signed n l = let s = read n l in residue_same (2 * h) (signed_at h n) (pos n) s.0 0 (omega arith) (omega (arith, ints, s.1)) ∙ mod-eq_of_lt l

  -- what is wrapped differs from the number by a multiple of 2 * h
  pub wrap_near : (z : ℤ) → (j : ℕ) × ((k : ℕ) × (wrap_at h z +ℤ pos (j * (2 * h)) ≡ z +ℤ pos (k * (2 * h))))
  unfolding wrap_at residue
  wrap_near (pos a) =
      let s = read (a % (2 * h)) (mod-lt a (omega arith)) in
      let split = div-add-mod' a (2 * h) in
      (s.0 + a / (2 * h), (0, omega (arith, ints, s.1)))
  wrap_near (negsuc a) =
      let small = mod-lt a {m = 2 * h} (omega arith) in
      let s = read (2 * h - 1 - a % (2 * h)) (omega arith) in
      let split = div-add-mod' a (2 * h) in
      (s.0, (a / (2 * h) + 1, omega (arith, ints, s.1)))

  pub wrap_left : (a b : ℤ) → wrap_at h (wrap_at h a +ℤ b) ≡ wrap_at h (a +ℤ b)
  wrap_left a b = let s = wrap_near a in wrap_same (wrap_at h a +ℤ b) (a +ℤ b) s.0 s.1.0 (omega (arith, ints, s.1.1))

  pub wrap_right : (a b : ℤ) → wrap_at h (a +ℤ wrap_at h b) ≡ wrap_at h (a +ℤ b)
  wrap_right a b = let s = wrap_near b in wrap_same (a +ℤ wrap_at h b) (a +ℤ b) s.0 s.1.0 (omega (arith, ints, s.1.1))

  pub wrap_signed : (n : ℕ) → n < 2 * h → wrap_at h (signed_at h n) ≡ signed_at h n
  unfolding wrap_at
  wrap_signed n l = ap (signed_at h) (residue_signed n l)

  -- what fits stays
  pub wrap_fits : (z : ℤ) → unsigned_abs z < h → wrap_at h z ≡ z
  unfolding wrap_at signed_at residue
  wrap_fits (pos a) l =
      let small : a % (2 * h) ≡ a = mod-eq_of_lt (omega arith) in
      ap (λ n. cond (nat_lt n h) (pos n) (negsuc (2 * h - suc n))) small ∙ ap (λ b. cond b (pos a) (negsuc (2 * h - suc a))) (lt-ltb a h l)
  wrap_fits (negsuc a) l =
      let small : a % (2 * h) ≡ a = mod-eq_of_lt (omega arith) in
      let n = 2 * h - 1 - a in
      ap (λ m. cond (nat_lt (2 * h - 1 - m) h) (pos (2 * h - 1 - m)) (negsuc (2 * h - suc (2 * h - 1 - m)))) small
      ∙ ap (λ b. cond b (pos n) (negsuc (2 * h - suc n))) (le-ltb n h (omega arith)) ∙ ap negsuc (omega arith)
