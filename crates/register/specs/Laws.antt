-- Registers are equal where their values are, and join by addition.
use Rattle.std.specs.Prelude.{◌≡◌, ℕ, zero, suc, ◌+◌, ◌*◌, ◌/◌, ◌%◌, ◌^◌, ◌<◌, List, [], ◌∷◌, length, ℤ, pos, ◌+ℤ◌, fold, slice_index, refl}
use Rattle.std.proofs.Common.{sym, ap, ◌∙◌, arith}
use mathlib.Core.HLevel.{is_prop→PathP, Π_prop}
use Rattle.std.proofs.Math.Bridge.{le_prop}
use Rattle.std.proofs.Math.Nat.{ℕ_set}
use Rattle.std.proofs.Math.IntN.{+ℤ_assoc, +ℤ_comm, +ℤ_idr}
use Rattle.register.specs.Limbs.{nat_of}
use Rattle.register.specs.Sum.{limbs_of, register_of, zero_register, plus}
use Rattle.register.specs.Value.{value, bits}
use Rattle.register.specs.Wrap.{half, residue, signed_at, wrap_at, wrap}
use Rattle.register.specs.declared.Register.{Register}
use Rattle.register.specs.Places.{weight_suc}
use Rattle.register.specs.Whole.{half_pos, whole_is, whole_lt}
use Rattle.register.specs.Wrapping.{residue_lt, residue_signed, wrap_left, wrap_right, wrap_signed}

limbs_of_nat_of : (xs : List ℕ) → ((k : ℕ) → slice_index xs k < 2 ^ 64) → limbs_of (length xs) (nat_of xs) ≡ xs
limbs_of_nat_of [] small = refl
limbs_of_nat_of (x ∷ xs) small =
    let low : (x + 2 ^ 64 * nat_of xs) % 2 ^ 64 ≡ x = omega (arith, small 0) in
    let high : (x + 2 ^ 64 * nat_of xs) / 2 ^ 64 ≡ nat_of xs = omega (arith, small 0) in
    let rest = ap (limbs_of (length xs)) high ∙ limbs_of_nat_of xs (λ k. small (suc k)) in
    λ i. low i ∷ rest i

nat_of_limbs_of : (n v : ℕ) → v < 2 ^ (64 * n) → nat_of (limbs_of n v) ≡ v
nat_of_limbs_of zero v l = omega arith
nat_of_limbs_of (suc n) v l =
    let below = rw (weight_suc n) at l in
    let rest = nat_of_limbs_of n (v / 2 ^ 64) (omega arith) in
    omega arith

pub same : (a b : Register) → a.limbs ≡ b.limbs → a ≡ b
same a b e j = record {
  limbs = e j;
  long = is_prop→PathP (λ k. length (e k) ≡ 34) (λ k. ℕ_set _ _) a.long b.long j;
  small = is_prop→PathP (λ k. (n : ℕ) → slice_index (e k) n < 2 ^ 64) (λ k. Π_prop (λ n. le_prop)) a.small b.small j;
}

limbs_are : (r : Register) → limbs_of 34 (bits r) ≡ r.limbs
limbs_are r = ap (λ n. limbs_of n (bits r)) (sym r.long) ∙ limbs_of_nat_of r.limbs r.small

same_value : (a b : Register) → value a ≡ value b → a ≡ b
same_value a b e =
    let number : bits a ≡ bits b = sym (residue_signed half half_pos (bits a) (whole_lt a)) ∙ ap (residue (2 * half)) e ∙ residue_signed half half_pos (bits b) (whole_lt b) in
    same a b (sym (limbs_are a) ∙ ap (limbs_of 34) number ∙ limbs_are b)

pub value_register_of : (z : ℤ) → value (register_of z) ≡ wrap z
unfolding register_of wrap_at
value_register_of z = ap (λ n. signed_at half n) (nat_of_limbs_of 34 (residue (2 * half) z) (rw whole_is (residue_lt half half_pos z)))

pub holds : (r : Register) (z : ℤ) → value r ≡ wrap z → r ≡ register_of z
holds r z e = same_value _ _ (e ∙ sym (value_register_of z))

pub plus_assoc : (a b c : Register) → plus (plus a b) c ≡ plus a (plus b c)
plus_assoc a b c =
    same_value _ _
    (value_register_of _ ∙ ap (λ z. wrap (z +ℤ value c)) (value_register_of (value a +ℤ value b)) ∙ wrap_left half half_pos (value a +ℤ value b) (value c)
    ∙ ap wrap (+ℤ_assoc (value a) (value b) (value c))
    ∙ sym (value_register_of _ ∙ ap (λ z. wrap (value a +ℤ z)) (value_register_of (value b +ℤ value c)) ∙ wrap_right half half_pos (value a) (value b +ℤ value c)))

pub plus_comm : (a b : Register) → plus a b ≡ plus b a
plus_comm a b = ap register_of (+ℤ_comm (value a) (value b))

pub plus_zero : (a : Register) → plus a zero_register ≡ a
plus_zero a =
    same_value _ _
    (value_register_of _ ∙ ap (λ z. wrap (value a +ℤ z)) (value_register_of (pos 0)) ∙ wrap_right half half_pos (value a) (pos 0) ∙ ap wrap (+ℤ_idr (value a))
    ∙ wrap_signed half half_pos (bits a) (whole_lt a))

pub wrap_zero : wrap (pos 0) ≡ pos 0
unfolding wrap_at residue signed_at half
wrap_zero = refl

pub value_zero : value zero_register ≡ pos 0
value_zero = value_register_of (pos 0) ∙ wrap_zero

-- a row of sums holds the sum of the values, wrapped
pub folded_value : (a : Register) (z : ℤ) (rs : List Register) → value a ≡ wrap z → value (fold plus a rs) ≡ wrap (fold (λ sum r. sum +ℤ value r) z rs)
folded_value a z [] e = e
folded_value a z (r ∷ rs) e = folded_value (plus a r) (z +ℤ value r) rs (value_register_of _ ∙ ap (λ y. wrap (y +ℤ value r)) e ∙ wrap_left half half_pos z (value r))
