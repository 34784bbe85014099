-- Digit by digit, n fits 64 bits and stays the number whose digits were read.
use Rattle.std.proofs.Common.{◌+◌, ◌*◌, ◌^◌, ◌<◌, [], ◌∷◌, ◌++◌, get_or, ap, ◌∙◌, arith}
use Rattle.std.proofs.lemmas.List.{take_more}
use Rattle.forms.specs.Text.{hex_text}
use Rattle.forms.proofs.Hexes.{hex_push, hex_room, hex_fits, no_hex}
use Rattle.forms.proofs.reads.hex_number.Goals as goal

pub returns-in_err-d : goal.returns-in_err-d
returns-in_err-d c =
    rw c.from_residual.ensures (no_hex c.args.digits c.args.text.now c.loop-b.b-index (omega arith) c.in_err-d.ensures)

fits : (c : goal.In_ok-d) → c.loop-b.n * 16 + c.in_ok-d.d < 2 ^ 64
fits c =
    hex_fits c.loop-b.b-index c.loop-b.n c.in_ok-d.d c.in_ok-d.ensures.0 c.loop-b.invariant.1 (omega arith)

pub overflow_mul-n : goal.overflow_mul-n
overflow_mul-n c = omega (arith, fits c)

pub overflow_add-n : goal.overflow_add-n
overflow_add-n c = omega (arith, fits c)

pub loop-b-preserved : goal.loop-b-preserved
loop-b-preserved c =
    let i = c.loop-b.b-index in
    let n = c.loop-b.n in
    let d = c.in_ok-d.d in
    let xs = c.args.text.now in (
      take_more xs i 0 c.loop-b-test.true
          ∙ ap (λ t. t ++ (get_or xs i 0 ∷ [])) c.loop-b.invariant.0
          ∙ ap (λ b. hex_text i n ++ (b ∷ [])) c.in_ok-d.ensures.1
          ∙ hex_push i n d c.in_ok-d.ensures.0,
      hex_room i n d c.in_ok-d.ensures.0 c.loop-b.invariant.1,
    )
