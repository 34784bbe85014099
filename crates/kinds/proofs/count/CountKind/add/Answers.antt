use Rattle.std.proofs.Common.{◌+ℤ◌, to_z, of_z, w64, arith}
use Rattle.std.proofs.lemmas.Int.{ints, clamps}
use Rattle.kinds.specs.Counting.{number_out, added}
use Rattle.kinds.proofs.count.CountKind.add.Goals as goal

pub overflow_sub-total : goal.overflow_sub-total
overflow_sub-total c = omega (arith, ints, clamps, number_out)

pub pattern-requires-2 : goal.pattern-requires-2
pattern-requires-2 c = omega (arith, ints, clamps, number_out)

pub returns : goal.returns
returns c =
    let total = to_z w64 (of_z w64 (to_z w64 (of_z w64 c.signed.result) +ℤ to_z w64 (of_z w64 c.signed-2.result))) in
    added c.args.a c.args.b _ _ total _ _ _ c.pattern.ensures c.pattern-2.ensures c.clamp-sum.ensures.value (omega (arith, ints)) (omega (arith, ints, clamps, number_out)) (omega (arith, ints, number_out))
