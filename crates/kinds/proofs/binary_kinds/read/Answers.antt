use Rattle.std.proofs.Common.{rules}
use Rattle.register.specs.Value.{value}
use Rattle.kinds.proofs.Ranges.{code_below, read}
use Rattle.kinds.proofs.binary_kinds.read.Goals as goal

pub signed-requires : goal.signed-requires
signed-requires g c =
    code_below g.B.Binary.format g.B.Binary.FRACTION g.B.Binary.layout (value c.args.sum.now) _ _ c.is_negative-negative.result c.magnitude.ensures c.rounded.ensures _ (search rules)

pub returns : goal.returns
returns g c =
    read g.B.Binary.format g.B.Binary.FRACTION g.B.Binary.layout (value c.args.sum.now) _ _ _ c.magnitude.ensures c.rounded.ensures c.in_ok-code.code _ (search rules) c.signed.ensures (search rules)
