use Rattle.std.proofs.Common.{refl, arith}
use Rattle.register.proofs.Carries.{placed}
use Rattle.register.proofs.Register.add_at.Goals as goal

pub returns : goal.returns
returns g c = placed g.S.Sign.negative c.args.self.now _ c.args.place c.add_limbs.ensures.sum.0 _ c.add_limbs.new.limbs (omega arith) refl (omega arith) c.add_limbs.ensures.sum.1
