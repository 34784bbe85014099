use Rattle.std.proofs.Common.{take, fold, sym, ap, ◌∙◌, arith, take_all}
use Rattle.std.proofs.lemmas.List.Sums.{fold_more}
use Rattle.join.proofs.Orders.{any_way}
use Rattle.join.proofs.left_to_right.Goals as goal

pub loop-item-preserved : goal.loop-item-preserved
loop-item-preserved g c =
    let m = g.J.Join in
    let xs = c.args.items.now in
    let i = c.loop-item.item-index in
    let item = c.item-item.result in
    let joined = rw c.loop-item.invariant.1 at c.join.ensures in
    (omega arith, joined ∙ ap (m.joined (fold m.joined m.neutral (take i xs))) c.item-item.is ∙ sym (fold_more m.joined m.neutral xs i item c.loop-item-test.true))

pub returns : goal.returns
returns g c =
    let m = g.J.Join in
    let laws = g.met.J.Join in
    let is = c.loop-item.invariant.1 ∙ ap (fold m.joined m.neutral) (take_all _ _ c.loop-item-test.false) in
    record { value = is; every = λ t s. any_way laws.assoc laws.comm laws.unit t c.args.items.now s ∙ sym is }
