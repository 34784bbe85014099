use Rattle.std.proofs.Common.{fold, sym, ap, ◌∙◌, subst, arith, take_all}
use Rattle.settle.specs.Both.{none_seen, both}
use Rattle.settle.specs.Seen.{Many}
use Rattle.settle.proofs.Folded.{Ones, ones_more, many}
use Rattle.settle.proofs.gauging.gauge_of.Goals as goal

pub gauge_of_number-requires : goal.gauge_of_number-requires
gauge_of_number-requires g c = c.requires.0 c.loop-p.p-index 0 c.loop-p-test.true

pub loop-p-preserved : goal.loop-p-preserved
loop-p-preserved g c =
    let k = g.K.Kind in
    let more = ones_more k c.args.numbers.now c.loop-p.gauges.items c.loop-p.p-index c.gauge_of_number.result c.loop-p-test.true c.loop-p.invariant.1 c.gauge_of_number.ensures in
    (omega arith, subst (Ones k _) (sym c.push.ensures.items) more)

pub returns : goal.returns
returns g c =
    let k = g.K.Kind in
    let xs = c.args.numbers.now in
    let all = subst (λ ys. Ones k ys c.loop-p.gauges.items) (take_all c.loop-p.p-index xs c.loop-p-test.false) c.loop-p.invariant.1 in
    subst (Many k xs) (sym (c.fold.ensures.value ∙ ap (fold both none_seen) c.as_slice.ensures.value)) (many k xs c.loop-p.gauges.items all)
