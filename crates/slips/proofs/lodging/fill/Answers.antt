use Rattle.std.proofs.Common.{set, refl}
use Rattle.std.proofs.lemmas.List.Elements.{All-set}
use Rattle.slots.proofs.Keeps.{Number}
use Rattle.slips.proofs.Filling.{above_less, in_use_set, exact_sum_set}
use Rattle.slips.proofs.lodging.fill.Goals as goal

pub is_zero-requires : goal.is_zero-requires
is_zero-requires g c = c.requires.numbers _ 0 c.loop-at.invariant.within

pub loop-at-preserved : goal.loop-at-preserved
loop-at-preserved g c = above_less g.K.Kind _ _ c.requires.room c.loop-at.invariant (c.is_zero.ensures.no c.if-is_zero.false)

pub returns : goal.returns
returns g c =
    let k = g.K.Kind in
    let i = c.loop-at.invariant in
    let zero = c.is_zero.ensures.yes c.if-is_zero.true in
    record {
      filled =
          record {
            slot = c.loop-at.at;
            free = record { above = i.above; within = i.within; zero = zero; highest = i.highest };
            put = refl {a = set c.args.slots.now c.loop-at.at c.args.p};
          };
      numbers = All-set (Number k) c.args.slots.now c.loop-at.at c.args.p c.requires.number c.requires.numbers;
      few = in_use_set k _ _ _;
      sum = exact_sum_set k _ _ _ i.within zero;
    }
