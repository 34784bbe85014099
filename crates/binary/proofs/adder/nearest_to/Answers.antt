use Rattle.std.proofs.Common.{◌∙◌, arith}
use Rattle.binary.proofs.Steps.{high_fits, high_code, high_units, greatest_code, greatest_units}
use Rattle.binary.proofs.adder.nearest_to.Goals as goal

pub overflow_add-code-2 : goal.overflow_add-code-2
overflow_add-code-2 g c =
    omega (
      arith,
      high_fits g.B.Binary.format g.B.Binary.FRACTION g.B.Binary.layout c.args.m c.args.shift _ _ _ c.lead-lead.ensures c.FRACTION-fraction.ensures c.requires.1 c.ilog2-highest.ensures.power_le c.ilog2-highest.ensures.next_power_gt
          c.if-highest-fraction.false c.requires.0 c.rounded-n.result c.rounded-n.ensures,
    )

pub returns-then-fits : goal.returns-then-fits
returns-then-fits g c =
    record {
      code = high_code g.B.Binary.format g.B.Binary.FRACTION g.B.Binary.layout c.args.m c.args.shift _ _ _ c.lead-lead.ensures c.FRACTION-fraction.ensures c.requires.1 c.ilog2-highest.ensures.power_le c.ilog2-highest.ensures.next_power_gt
          c.if-highest-fraction.false c.requires.0 c.rounded-n.result c.rounded-n.ensures c.if-fits.ensures;
      units = high_units g.B.Binary.format g.B.Binary.FRACTION g.B.Binary.layout c.args.m c.args.shift _ _ _ c.lead-lead.ensures c.FRACTION-fraction.ensures c.requires.1 c.ilog2-highest.ensures.power_le c.ilog2-highest.ensures.next_power_gt
          c.if-highest-fraction.false c.requires.0 c.rounded-n.result c.rounded-n.ensures c.if-fits.ensures;
    }

pub returns : goal.returns
returns g c =
    let e = c.SCALES.ensures ∙ g.B.Binary.greatest in
    record {
      code = greatest_code g.B.Binary.format g.B.Binary.FRACTION g.B.Binary.layout c.args.m c.args.shift _ _ _ c.lead-lead.ensures c.FRACTION-fraction.ensures c.requires.1 c.ilog2-highest.ensures.power_le c.ilog2-highest.ensures.next_power_gt
          c.if-highest-fraction.false c.requires.0 c.rounded-n.result c.rounded-n.ensures c.if-fits.ensures _ c.top.ensures;
      units = greatest_units g.B.Binary.format g.B.Binary.FRACTION g.B.Binary.layout c.args.m c.args.shift _ _ _ c.lead-lead.ensures c.FRACTION-fraction.ensures c.requires.1 c.ilog2-highest.ensures.power_le c.ilog2-highest.ensures.next_power_gt
          c.if-highest-fraction.false c.requires.0 c.rounded-n.result c.rounded-n.ensures c.if-fits.ensures _ e;
    }
