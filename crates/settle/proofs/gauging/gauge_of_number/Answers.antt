use Rattle.std.proofs.Common.{nat_abs, ap, ◌∙◌, subst}
use lib.IntN.{+ℤ_idr}
use Rattle.register.specs.Limbs.{LeastBits}
use Rattle.settle.proofs.Folded.{counted_by}
use Rattle.settle.proofs.gauging.gauge_of_number.Goals as goal

pub returns : goal.returns
returns g c =
    let worth = g.K.Kind.worth c.args.p in
    let z =
    subst (λ m. LeastBits m c.bit_length-peak.result) (c.magnitude.ensures ∙ ap nat_abs (c.sum_of.ensures ∙ +ℤ_idr worth)) c.bit_length-peak.ensures
    in
    record { counted = counted_by _ _ _ z c.from.ensures; sized = z }
