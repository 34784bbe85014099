-- A fleet's sum stays within the register, and one register is the first beyond its reach.
use Rattle.std.proofs.Common.{◌≡◌, ℕ, suc, ◌+◌, ◌*◌, ◌<◌, ◌≤◌, List, [], ◌∷◌, length, ℤ, pos, ◌+ℤ◌, nat_abs, fold, ◌∙◌, lt_of_lt_of_le, mul-le-mul_right, arith, lit<, pow_mono}
use native.Mathlib.Decide.{dec_le}
use Rattle.register.specs.Limbs.{LeastBits}
use Rattle.register.specs.Sum.{zero_register, plus}
use Rattle.register.specs.Value.{value}
use Rattle.register.specs.Wrap.{half}
use Rattle.register.specs.declared.Register.{Register}
use Rattle.register.specs.Laws.{value_register_of, folded_value}
use Rattle.register.specs.Whole.{half_pos, sum_size}
use Rattle.register.specs.Wrapping.{wrap_fits}
use Rattle.accounts.specs.Reach.{fleet_reach}
use Rattle.accounts.specs.Fleet.{fleet_sum, AllInReach, FirstBeyond}

pub few_bits : (n p : ℕ) → LeastBits n p → p ≤ 2131 → n < fleet_reach
unfolding fleet_reach
few_bits n p l h = lt_of_lt_of_le l.enough (pow_mono h)

bits_few : (n p : ℕ) → LeastBits n p → n < fleet_reach → p ≤ 2131
unfolding fleet_reach
bits_few n p l h = l.least 2131 h

pub many_bits : (n p : ℕ) → LeastBits n p → 2131 < p → fleet_reach ≤ n
many_bits n p l h =
    elim (dec_le fleet_reach n) [
      | yes e ↦ e
      | no e ↦ absurd (omega (arith, bits_few n p l (omega arith)))
    ]

-- no two places are the first
pub one_first : (rs : List Register) (i j : ℕ) → FirstBeyond rs i → FirstBeyond rs j → i ≡ j
one_first rs i j (_, before-i, at_i) (_, before-j, at_j) =
    elim (dec_le (suc i) j) [
      | yes e ↦ absurd (omega (arith, before-j i zero_register (omega arith) (omega arith), at_i zero_register))
      | no e ↦ elim (dec_le (suc j) i) [
        | yes d ↦ absurd (omega (arith, before-i j zero_register (omega arith) (omega arith), at_j zero_register))
        | no d ↦ omega arith
      ]
    ]

pub none_first : (rs : List Register) (i : ℕ) → AllInReach rs → FirstBeyond rs i → ⊥
none_first rs i all (i_lt, _, at_i) = omega (arith, all i zero_register (omega arith) i_lt, at_i zero_register)

sum_within : (z : ℤ) (rs : List Register) → AllInReach rs → nat_abs (fold (λ sum r. sum +ℤ value r) z rs) ≤ nat_abs z + length rs * fleet_reach
sum_within z [] all = omega arith
sum_within z (r ∷ rs) all =
    let one = all 0 r (omega arith) (omega arith) in
    let rest = sum_within (z +ℤ value r) rs (λ k d _ h. all (suc k) d (omega arith) (omega arith)) in
    omega (arith, sum_size z (value r))

all_within : 1024 * fleet_reach < half
unfolding fleet_reach half
all_within = lit< tt

-- so many registers in reach add up without wrapping
pub added : (rs : List Register) → length rs ≤ 1024 → AllInReach rs → value (fold plus zero_register rs) ≡ fleet_sum rs
added rs few all =
    let most = mul-le-mul_right fleet_reach few in
    let size = sum_within (pos 0) rs all in
    folded_value zero_register (pos 0) rs (value_register_of (pos 0)) ∙ wrap_fits half half_pos (fleet_sum rs) (omega (arith, all_within))
