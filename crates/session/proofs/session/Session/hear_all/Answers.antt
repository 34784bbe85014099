use Rattle.std.proofs.Common.{vec_items, arith, take_all}
use Rattle.session.proofs.Hearing.{hears_more}
use Rattle.session.proofs.session.Session.hear_all.Goals as goal

pub loop-b-preserved : goal.loop-b-preserved
loop-b-preserved c =
    let e = c.byte.ensures in (
      λ b line s.
          let h = c.loop-b.invariant.0 b line s in
          hears_more b line (vec_items c.args.out.now) c.loop-b.self c.byte.new.self (vec_items c.loop-b.out) (vec_items c.byte.new.out) c.args.chunk.now
          c.loop-b.b-index c.loop-b-test.true h (e.hears h.book h.next h.stands),
      omega (arith, e.line, c.loop-b.invariant.1),
      omega (arith, e.room, c.loop-b.invariant.2),
    )

pub returns : goal.returns
returns c = let all = take_all _ c.args.chunk.now c.loop-b-test.false in rw all at c.loop-b.invariant.0
