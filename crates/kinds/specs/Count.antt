-- The kind count: litres, 32 bits in two's complement.
use Rattle.std.specs.Prelude.{ℕ, suc, ◌-◌, ◌^◌, Bool, cond, not, ◌&&◌, ℤ, pos, negsuc, neg_ℤ, ◌==◌, nat_lt}
use Rattle.std.proofs.Common.{lit≤}
use Rattle.numbers.specs.Format.{Format}
use Rattle.numbers.specs.Coding.{Coding}

-- whole numbers below 2 ^ 31 in magnitude, at one scale
abbrev pub litres : Format
litres = record { radix = 2 ^ 31; lead = 1; scales = 0; two = lit≤ tt; three = lit≤ tt }

-- every pattern of 32 bits but the mark for no echo
abbrev pub is_count : ℕ → Bool
is_count p = nat_lt p (2 ^ 32) && not (p == 0x8000_0000)

unfoldable pub count_worth : ℕ → ℤ
count_worth p = cond (nat_lt p (2 ^ 31)) (pos p) (neg_ℤ (pos (2 ^ 32 - p)))

unfoldable pub count_pattern : ℤ → ℕ
count_pattern (pos m) = m
count_pattern (negsuc m) = 2 ^ 32 - suc m

abbrev pub counts : Coding
counts = record { format = litres; number = is_count; worth = count_worth; pattern = count_pattern }
