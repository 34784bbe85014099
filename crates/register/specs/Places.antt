-- One limb of a number in limbs: what its place weighs, what a write to it changes, and the size of the whole.
use Rattle.std.specs.Prelude.{◌≡◌, ℕ, zero, suc, ◌+◌, ◌*◌, ◌^◌, ◌<◌, List, [], ◌∷◌, length, take, slice_index, slice_set}
use Rattle.std.proofs.Common.{sym, ap, ◌∙◌, arith, not-suc-le-zero, le_of_suc-le-suc, add-one, pow_pos, pow-add}
use Rattle.register.specs.Limbs.{nat_of}

pub weight_more : (i : ℕ) → 2 ^ (64 * (i + 1)) ≡ 2 ^ 64 * 2 ^ (64 * i)
weight_more i = ap (λ n. 2 ^ n) (omega arith) ∙ pow-add 2 64 (64 * i)

pub weight_suc : (i : ℕ) → 2 ^ (64 * suc i) ≡ 2 ^ 64 * 2 ^ (64 * i)
weight_suc i = ap (λ n. 2 ^ (64 * n)) (sym (add-one i)) ∙ weight_more i

pub nat_of_set : (xs : List ℕ) (i v : ℕ) → i < length xs → nat_of (slice_set xs i v) + slice_index xs i * 2 ^ (64 * i) ≡ nat_of xs + v * 2 ^ (64 * i)
nat_of_set [] i v h = absurd (not-suc-le-zero h)
nat_of_set (x ∷ xs) zero v h = omega arith
nat_of_set (x ∷ xs) (suc i) v h = rw (weight_suc i) (omega (arith, nat_of_set xs i v (le_of_suc-le-suc h)))

pub nat_of_take : (xs : List ℕ) (i : ℕ) → nat_of (take (i + 1) xs) ≡ nat_of (take i xs) + slice_index xs i * 2 ^ (64 * i)
nat_of_take xs i = rw add-one (go xs i)
  where
    go : (xs : List ℕ) (i : ℕ) → nat_of (take (suc i) xs) ≡ nat_of (take i xs) + slice_index xs i * 2 ^ (64 * i)
    go [] zero = omega arith
    go [] (suc i) = omega arith
    go (x ∷ xs) zero = omega arith
    go (x ∷ xs) (suc i) = rw (weight_suc i) (omega (arith, go xs i))

pub front_lt : (xs : List ℕ) (i : ℕ) → ((k : ℕ) → slice_index xs k < 2 ^ 64) → nat_of (take i xs) < 2 ^ (64 * i)
front_lt xs zero h = omega arith
front_lt [] (suc i) h = pow_pos (64 * suc i)
front_lt (x ∷ xs) (suc i) h = rw (weight_suc i) (omega (arith, h 0, front_lt xs i (λ k. h (suc k))))
