-- Limbs added to limbs under a sign.
use Rattle.std.proofs.Common.{◌≡◌, ℕ, ◌+◌, ◌-◌, ◌*◌, ◌/◌, ◌%◌, ◌^◌, ◌<◌, ◌≤◌, Bool, true, false, List, [], ◌++◌, length, take, drop, slice_index, slice_set, cond, pos, ◌+ℤ◌, ◌-ℤ◌, neg_ℤ, sym, ap, ◌∙◌, pow-add, take_all, length-drop, mul_assoc, arith}
use borrow.Rule.Slice.PartMut.{put_mid, mid_of}
use Rattle.std.proofs.lemmas.Int.{ints}
use Rattle.std.proofs.lemmas.Nat.{one_shl}
use Rattle.std.proofs.lemmas.List.{drop_all, append-nil, drop_at, take_at, length-take-le}
use Rattle.register.specs.Limbs.{nat_of}
use Rattle.register.specs.Sum.{register_of}
use Rattle.register.specs.Value.{value, bits}
use Rattle.register.specs.Wrap.{half, signed_by}
use Rattle.register.specs.Laws.{holds, value_register_of}
use Rattle.register.specs.Places.{weight_more, nat_of_set, nat_of_take}
use Rattle.register.specs.Whole.{half_pos, whole_is, whole_lt}
use Rattle.register.specs.Wrapping.{read, wrap_same, wrap_sum}
use Rattle.register.specs.declared.Register.{Register}
use Rattle.register.proofs.Splits.{whole_split}

-- The limb at i gives way to `new`, with `out` to the next place: what was added so far has then grown by the other limb at i.
pub step : (d : Bool) (xs ys : List ℕ) (start new carry out i : ℕ) → i < length xs → pos new +ℤ signed_by d (out * 2 ^ 64) ≡ pos (slice_index xs i) +ℤ signed_by d (slice_index ys i + carry) → pos (nat_of xs) +ℤ signed_by d (carry * 2 ^ (64 * i)) ≡ pos start +ℤ signed_by d (nat_of (take i ys)) → pos (nat_of (slice_set xs i new)) +ℤ signed_by d (out * 2 ^ (64 * (i + 1))) ≡ pos start +ℤ signed_by d (nat_of (take (i + 1) ys))
step false xs ys start new carry out i h limb e =
    let here : new + out * 2 ^ 64 ≡ slice_index xs i + (slice_index ys i + carry) = omega (arith, ints) in
    rw (weight_more i, nat_of_take ys i) (omega (arith, ints, nat_of_set xs i new h, ap (λ x. x * 2 ^ (64 * i)) here))
step true xs ys start new carry out i h limb e =
    let here : new + (slice_index ys i + carry) ≡ slice_index xs i + out * 2 ^ 64 = omega (arith, ints) in
    rw (weight_more i, nat_of_take ys i) (omega (arith, ints, nat_of_set xs i new h, ap (λ x. x * 2 ^ (64 * i)) here))

-- a sum from a place of weight w on, as one of whole numbers that wrap at t
wrapped : (d : Bool) (a b n out p w t front : ℕ) → p * w ≡ t → pos a +ℤ signed_by d (out * p) ≡ pos b +ℤ signed_by d n → (j : ℕ) × ((k : ℕ) × (pos (b * w + front) +ℤ signed_by d (n * w) +ℤ pos (j * t) ≡ pos (a * w + front) +ℤ pos (k * t)))
wrapped false a b n out p w t front e sum =
    let here : a + out * p ≡ b + n = omega (arith, ints) in
    (0, (out, omega (arith, ints, ap (λ x. x * w) here, ap (λ x. out * x) e, mul_assoc out p w)))
wrapped true a b n out p w t front e sum =
    let here : a + n ≡ b + out * p = omega (arith, ints) in
    (out, (0, omega (arith, ints, ap (λ x. x * w) here, ap (λ x. out * x) e, mul_assoc out p w)))

-- The limbs of a register from a place on have become ys, with `out` past its end.
pub placed : (d : Bool) (old new : Register) (place out n : ℕ) (ys : List ℕ) → place ≤ 34 → new.limbs ≡ put_mid place (34 - place) old.limbs ys → length ys ≡ length (mid_of place (34 - place) old.limbs) → pos (nat_of ys) +ℤ signed_by d (out * 2 ^ (64 * length (mid_of place (34 - place) old.limbs))) ≡ pos (nat_of (mid_of place (34 - place) old.limbs)) +ℤ signed_by d n → new ≡ register_of (value old +ℤ signed_by d (n * 2 ^ (64 * place)))
placed d old new place out n ys h is long e =
    let size : length old.limbs ≡ 34 = old.long in
    let mid : mid_of place (34 - place) old.limbs ≡ drop place old.limbs = take_all _ _ (omega (arith, length-drop {A = ℕ})) in
    let count : length (drop place old.limbs) ≡ 34 - place = omega (arith, length-drop {A = ℕ}) in
    let end : drop (34 - place) (drop place old.limbs) ≡ [] = drop_all (34 - place) (drop place old.limbs) (omega arith) in
    let back : drop place new.limbs ≡ ys = ap (drop place) is ∙ drop_at _ _ _ (length-take-le place old.limbs (omega arith)) ∙ ap (λ l. ys ++ l) end ∙ append-nil ys in
    let front : take place new.limbs ≡ take place old.limbs = ap (take place) is ∙ take_at _ _ _ (length-take-le place old.limbs (omega arith)) in
    let parts : 64 * (34 - place) + 64 * place ≡ 64 * 34 = omega arith in
    let weight : 2 ^ (64 * (34 - place)) * 2 ^ (64 * place) ≡ 2 * half = sym (pow-add 2 (64 * (34 - place)) (64 * place)) ∙ ap (λ k. 2 ^ k) parts ∙ whole_is in
    let before = whole_split old.limbs place in
    let after = rw (back, front) at (whole_split new.limbs place) in
    let s = wrapped d (nat_of ys) (nat_of (drop place old.limbs)) n out _ (2 ^ (64 * place)) (2 * half) (nat_of (take place old.limbs)) weight (simp (mid, count) at e) in
    holds new _ (wrap_sum half half_pos (bits old) (signed_by d (n * 2 ^ (64 * place))) (bits new) s.0 s.1.0 (whole_lt old) (whole_lt new) (rw (before, after) s.1.1))

-- a register's bits count as its value
whole_sum : (d : Bool) (a b : Register) → register_of (value a +ℤ signed_by d (bits b * 2 ^ (64 * 0))) ≡ register_of (value a +ℤ cond d (neg_ℤ (value b)) (value b))
whole_sum false a b = let s = read half half_pos (bits b) (whole_lt b) in holds _ _ (value_register_of _ ∙ wrap_same half half_pos _ _ 0 s.0 (omega (arith, ints, s.1)))
whole_sum true a b = let s = read half half_pos (bits b) (whole_lt b) in holds _ _ (value_register_of _ ∙ wrap_same half half_pos _ _ s.0 0 (omega (arith, ints, s.1)))

pub added : (a b : Register) → register_of (value a +ℤ pos (bits b * 1)) ≡ register_of (value a +ℤ value b)
added a b = whole_sum false a b

pub taken : (a b : Register) → register_of (value a +ℤ neg_ℤ (pos (bits b * 1))) ≡ register_of (value a -ℤ value b)
taken a b = whole_sum true a b

-- a magnitude at a shift, as two limbs at its place
pub spread : (low high m shift : ℕ) → low + high * 2 ^ 64 ≡ m * (1 * 2 ^ (shift % 64) % 2 ^ 64) + 0 → (low + 2 ^ 64 * (high + 2 ^ 64 * 0)) * 2 ^ (64 * (shift / 64)) ≡ m * 2 ^ shift
spread low high m shift e =
    let bit : 1 * 2 ^ (shift % 64) % 2 ^ 64 ≡ 2 ^ (shift % 64) = one_shl (shift % 64) 64 (omega arith) in
    let whole : 2 ^ shift ≡ 2 ^ (shift % 64) * 2 ^ (64 * (shift / 64)) = ap (λ n. 2 ^ n) (omega arith) ∙ pow-add 2 (shift % 64) (64 * (shift / 64)) in
    ap (λ n. n * 2 ^ (64 * (shift / 64))) (omega (arith, rw bit at e)) ∙ mul_assoc m (2 ^ (shift % 64)) (2 ^ (64 * (shift / 64))) ∙ ap (λ n. m * n) (sym whole)
