use Rattle.std.proofs.Common.{◌≡◌, length, slice_index, take, take_all, zero-mul, rules, arith}
use Rattle.std.proofs.lemmas.List.{set-get_or}
use Rattle.std.proofs.lemmas.Grind.{common_steps}
use Rattle.std.specs.Int.{from_bool}
use Rattle.register.specs.Limbs.{nat_of}
use Rattle.register.proofs.Carries.{step}
use Rattle.register.proofs.sums.add_limbs.Goals as goal

pub loop-i-preserved : goal.loop-i-preserved
loop-i-preserved g c =
    let other : c.unwrap_or-other.result ≡ slice_index c.args.others.now c.loop-i.i = search rules in
    record {
      small = λ k. grind (arith, common_steps, c.loop-i.invariant.small k);
      sum =
          step g.S.Sign.negative c.loop-i.limbs c.args.others.now (nat_of c.args.limbs.now) c.step.result.0 (from_bool c.loop-i.carry) (from_bool c.step.result.1) c.loop-i.i (omega arith) (rw other at c.step.ensures) c.loop-i.invariant.sum;
    }

pub returns-after-loop-i-clause-sum : goal.returns-after-loop-i-clause-sum
returns-after-loop-i-clause-sum g c =
    let end : c.loop-i.i ≡ length c.args.limbs.now = omega arith in
    let all : take (length c.args.limbs.now) c.args.others.now ≡ c.args.others.now = take_all _ _ (omega arith) in
    (from_bool c.loop-i.carry, simp (end, all) at c.loop-i.invariant.sum)

pub returns-then-not-carry-clause-sum : goal.returns-then-not-carry-clause-sum
returns-then-not-carry-clause-sum g c =
    let all : take c.loop-i.i c.args.others.now ≡ c.args.others.now = take_all _ _ (omega arith) in
    (0, simp (set-get_or, zero-mul) (simp (c.if-not-carry.true, all, zero-mul) at c.loop-i.invariant.sum))
