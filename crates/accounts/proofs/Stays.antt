-- A total of as many entries as an account takes stays within the register, so it never wraps.
use Rattle.std.proofs.Common.{◌≡◌, ℕ, ◌+◌, ◌*◌, ◌^◌, ◌<◌, ◌≤◌, ℤ, ◌+ℤ◌, nat_abs, mul-le-mul_right, arith, lit<}
use Rattle.register.specs.Wrap.{half, wrap}
use Rattle.register.specs.Whole.{half_pos, sum_size}
use Rattle.register.specs.Wrapping.{wrap_fits}
use Rattle.accounts.specs.Reach.{reach}

all_within : (2 ^ 32) * reach < half
unfolding reach half
all_within = lit< tt

in_reach : (n : ℕ) → n < 2 ^ 2098 → n < reach
unfolding reach
in_reach n l = l

-- one entry more
pub record Stays (old z : ℤ) (n : ℕ) : Type 0 where
  pub exact : wrap (old +ℤ z) ≡ old +ℤ z
  pub within : nat_abs (old +ℤ z) ≤ (n + 1) * reach

pub stays : (old z : ℤ) (n : ℕ) → nat_abs old ≤ n * reach → n < 4294967295 → nat_abs z < 2 ^ 2098 → Stays old z n
stays old z n sound room small =
    let one = in_reach (nat_abs z) small in
    let size = sum_size old z in
    let few : n + 1 ≤ 2 ^ 32 = omega arith in
    let most = mul-le-mul_right reach few in
    let limit = all_within in
    let grown : nat_abs (old +ℤ z) ≤ (n + 1) * reach = omega arith in
    record { exact = wrap_fits half half_pos (old +ℤ z) (omega arith); within = grown }
