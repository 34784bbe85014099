use Rattle.std.proofs.Common.{◌≡◌, ◌^◌, ◌<◌, true, false, pos, sym, ◌∙◌, unsigned_abs, int_lt, arith}
use Rattle.std.proofs.lemmas.Int.{ints}
use Rattle.register.specs.Value.{value}
use Rattle.kinds.specs.Counting.{window_is, reads}
use Rattle.kinds.proofs.count.CountKind.outcome.Goals as goal

pub returns-then-negative : goal.returns-then-negative
returns-then-negative c =
    let s : int_lt (value c.args.sum.now) (pos 0) ≡ true = sym c.is_negative-negative.ensures ∙ c.if-negative.true in
    let w : (c.window-z.result ≡ unsigned_abs (value c.args.sum.now)) × (unsigned_abs (value c.args.sum.now) < 2 ^ 31) =
    window_is (value c.args.sum.now) _ _ c.magnitude-magnitude.ensures c.bit_length.ensures _ c.if-bit_length-gt31.false c.window-z.ensures in
    reads (value c.args.sum.now) _ _ c.magnitude-magnitude.ensures c.bit_length.ensures _ _ c.if-bit_length-gt31.false c.pattern.ensures (omega (arith, ints))

pub returns-else-negative : goal.returns-else-negative
returns-else-negative c =
    let s : int_lt (value c.args.sum.now) (pos 0) ≡ false = sym c.is_negative-negative.ensures ∙ c.if-negative.false in
    let w : (c.window-z.result ≡ unsigned_abs (value c.args.sum.now)) × (unsigned_abs (value c.args.sum.now) < 2 ^ 31) =
    window_is (value c.args.sum.now) _ _ c.magnitude-magnitude.ensures c.bit_length.ensures _ c.if-bit_length-gt31.false c.window-z.ensures in
    reads (value c.args.sum.now) _ _ c.magnitude-magnitude.ensures c.bit_length.ensures _ _ c.if-bit_length-gt31.false c.pattern-else-negative.ensures (omega (arith, ints))
