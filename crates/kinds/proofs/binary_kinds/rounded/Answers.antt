use Rattle.std.proofs.Common.{◌∙◌, arith}
use Rattle.kinds.proofs.Ranges.{code_fits, last}
use Rattle.kinds.proofs.binary_kinds.rounded.Goals as goal

pub overflow_add-at : goal.overflow_add-at
overflow_add-at g c =
    omega (
      arith,
      code_fits g.B.Binary.format g.B.Binary.FRACTION g.B.Binary.layout _ _ _ c.bit_length-size.ensures c.FRACTION-digits.ensures c.if-size-digits.false _
          (c.SCALES.ensures ∙ g.B.Binary.greatest) _ _ c.lead.ensures c.if-at-SCALES.false c.rounded_at.ensures,
    )

pub returns : goal.returns
returns g c =
    last g.B.Binary.format g.B.Binary.FRACTION g.B.Binary.layout _ _ _ c.bit_length-size.ensures c.FRACTION-digits.ensures c.if-size-digits.false _
    (c.SCALES.ensures ∙ g.B.Binary.greatest) _ _ c.lead.ensures c.if-at-SCALES.false c.rounded_at.ensures _ c.in_range.ensures
