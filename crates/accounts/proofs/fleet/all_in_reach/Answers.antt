use Rattle.std.proofs.Common.{◌≡◌, suc, get_or, sym, refl, ap, ◌∙◌, subst, arith}
use native.Mathlib.Decide.{dec_le}
use Rattle.std.proofs.lemmas.List.{get_or_default}
use Rattle.accounts.specs.Fleet.{InReach, BeyondReach}
use Rattle.accounts.proofs.FleetSum.{few_bits, many_bits}
use Rattle.accounts.proofs.fleet.all_in_reach.Goals as goal

pub returns-then-bit_length-gt2131 : goal.returns-then-bit_length-gt2131
returns-then-bit_length-gt2131 c =
    let long = rw c.magnitude.ensures at (many_bits _ _ c.bit_length.ensures c.if-bit_length-gt2131.true) in
    let i = c.loop-i.i in
    let item = c.index-registers-i.result in
    (i, (c.loop-i-test.true, c.loop-i.invariant, λ d. subst BeyondReach (c.index-registers-i.is ∙ get_or_default _ i item d c.loop-i-test.true) long), refl)

pub loop-i-preserved : goal.loop-i-preserved
loop-i-preserved c k d _ lt =
    let short = rw c.magnitude.ensures at (few_bits _ _ c.bit_length.ensures c.if-bit_length-gt2131.false) in
    let i = c.loop-i.i in
    let item = c.index-registers-i.result in
    elim (dec_le (suc k) i) [
      | yes e ↦ c.loop-i.invariant k d (omega arith) e
      | no e ↦
          let here : k ≡ i = omega arith in
          subst InReach (c.index-registers-i.is ∙ get_or_default _ i item d c.loop-i-test.true ∙ ap (λ j. get_or c.args.registers.now j d) (sym here)) short
    ]

pub returns : goal.returns
returns c k d _ lt = c.loop-i.invariant k d (omega arith) (omega (arith, c.loop-i-test.false))
