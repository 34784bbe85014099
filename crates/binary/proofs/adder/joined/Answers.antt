use Rattle.std.proofs.Common.{arith}
use borrow.Author.Differences.{ints}
use Rattle.binary.proofs.Joins.{far_apart, small, summed}
use Rattle.binary.proofs.adder.joined.Goals as goal

pub returns-then-gap-FRACTION : goal.returns-then-gap-FRACTION
returns-then-gap-FRACTION g c =
    far_apart g.B.Binary.format g.B.Binary.FRACTION g.B.Binary.layout c.args.x c.args.y _ c.requires.first c.requires.second c.FRACTION.ensures _ _ c.if-gap-FRACTION.true c.written.ensures c.written-then-gap-FRACTION.ensures

pub with_sign-requires : goal.with_sign-requires
with_sign-requires g c =
    omega (arith, small g.B.Binary.format g.B.Binary.FRACTION g.B.Binary.layout c.args.x c.args.y _ c.requires.first c.requires.second c.FRACTION.ensures c.requires.order c.if-gap-FRACTION.false)

pub overflow_add-sum : goal.overflow_add-sum
overflow_add-sum g c =
    omega (arith, ints, small g.B.Binary.format g.B.Binary.FRACTION g.B.Binary.layout c.args.x c.args.y _ c.requires.first c.requires.second c.FRACTION.ensures c.requires.order c.if-gap-FRACTION.false)

pub settled-requires : goal.settled-requires
settled-requires g c =
    (omega (arith, ints, small g.B.Binary.format g.B.Binary.FRACTION g.B.Binary.layout c.args.x c.args.y _ c.requires.first c.requires.second c.FRACTION.ensures c.requires.order c.if-gap-FRACTION.false), c.requires.second.within)

pub returns : goal.returns
returns g c =
    let j = small g.B.Binary.format g.B.Binary.FRACTION g.B.Binary.layout c.args.x c.args.y _ c.requires.first c.requires.second c.FRACTION.ensures c.requires.order c.if-gap-FRACTION.false in
    summed g.B.Binary.format g.B.Binary.FRACTION g.B.Binary.layout c.args.x c.args.y _ c.requires.first c.requires.second c.FRACTION.ensures c.requires.order c.if-gap-FRACTION.false _ _ _ c.settled.ensures (omega (arith, ints))
