use Rattle.std.proofs.Common.{◌≡◌, ℕ, ◌*◌, ◌^◌, ◌<◌, pos, ◌+ℤ◌, take, slice_index}
use Rattle.std.specs.Int.{from_bool}
use Rattle.register.specs.Limbs.{nat_of}
use Rattle.register.specs.Wrap.{signed_by}
use Rattle.register.proofs.sums.add_limbs.Given as goal

-- what is written so far, with the carry at the next place, is the sum with the front of the others
abbrev pub invariant-loop-i : goal.invariant-loop-i
invariant-loop-i g l =
    let d = g.S.Sign.negative in
    record {
      small : (k : ℕ) → slice_index l.limbs k < 2 ^ 64;
      sum : pos (nat_of l.limbs) +ℤ signed_by d (from_bool l.carry * 2 ^ (64 * l.i)) ≡ pos (nat_of l.initial.limbs) +ℤ signed_by d (nat_of (take l.i l.others));
    }
