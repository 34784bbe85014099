use Rattle.std.proofs.Common.{◌≡◌, ◌+◌, ◌^◌, ◌≤◌, length, take, drop, sym, ap, ◌∙◌, subst, arith, length-drop, length-take}
use lib.IntN.{+ℤ_idr}
use Rattle.std.proofs.lemmas.List.{take_rest}
use Rattle.std.proofs.lemmas.List.Elements.{All-take, All-drop}
use Rattle.register.specs.Value.{value}
use Rattle.kinds.specs.Answer.{answered}
use Rattle.slots.specs.Pass.{exact_sum, in_use}
use Rattle.slots.proofs.Keeps.{Number}
use Rattle.settle.specs.Seen.{Many}
use Rattle.settle.specs.Test.{Ceiling, none, some}
use Rattle.settle.proofs.Powers.{in_use_length}
use Rattle.settle.proofs.Wide.{power_small, exact_up, exact_down}
use Rattle.settle.proofs.Ends.{raised, lowered, minus_zero}
use Rattle.settle.proofs.test.ends.Goals as goal
use Rattle.settle.proofs.test.ends.Goals.{then-gauge-gt0, else-gauge-gt0}

pub gauge_of-gauge-requires : goal.gauge_of-gauge-requires
gauge_of-gauge-requires g c =
    let xs = c.args.slots.now in
    rw (take_rest xs 2) (All-drop (Number g.K.Kind) 2 xs c.requires.0, simp length-drop (omega (arith, c.requires.1.1)))

pub sum_of-high-requires : goal.sum_of-high-requires
sum_of-high-requires g c =
    let xs = c.args.slots.now in
    (All-take (Number g.K.Kind) 2 xs c.requires.0, omega (arith, length-take 2 xs))

pub ceiling-requires : goal.ceiling-requires
ceiling-requires g c =
    let xs = c.args.slots.now in
    let seen = subst (λ ys. Many g.K.Kind ys c.gauge_of-gauge.result) (take_rest xs 2) c.gauge_of-gauge.ensures in
    omega (arith, seen.counted, in_use_length g.K.Kind (drop 2 xs), length-drop 2 xs, c.requires.1.1)

pub overflow_add-shift : goal.overflow_add-shift
overflow_add-shift g c =
    let xs = c.args.slots.now in
    let k = g.K.Kind in
    let seen = subst (λ ys. Many k ys c.gauge_of-gauge.result) (take_rest xs 2) c.gauge_of-gauge.ensures in
    let few : c.gauge_of-gauge.result.count ≤ 4096 = omega (arith, seen.counted, in_use_length k (drop 2 xs), length-drop 2 xs, c.requires.1.1) in
    let small = power_small k g.met.K.Kind.lawful (drop 2 xs) _ _ _ (All-drop (Number k) 2 xs c.requires.0) few c.ceiling.ensures seen.peak in
    omega (arith, small)

pub invariant_of-add_scaled : goal.invariant_of-add_scaled
invariant_of-add_scaled g c =
    let xs = c.args.slots.now in
    let k = g.K.Kind in
    let seen = subst (λ ys. Many k ys c.gauge_of-gauge.result) (take_rest xs 2) c.gauge_of-gauge.ensures in
    let few : c.gauge_of-gauge.result.count ≤ 4096 = omega (arith, seen.counted, in_use_length k (drop 2 xs), length-drop 2 xs, c.requires.1.1) in
    let small = power_small k g.met.K.Kind.lawful (drop 2 xs) _ _ _ (All-drop (Number k) 2 xs c.requires.0) few c.ceiling.ensures seen.peak in
    record { low = omega (arith, small) }

pub returns : goal.returns
returns g c =
    let k = g.K.Kind in
    let law = g.met.K.Kind.lawful in
    let xs = c.args.slots.now in
    let seen = subst (λ ys. Many k ys c.gauge_of-gauge.result) (take_rest xs 2) c.gauge_of-gauge.ensures in
    let used = in_use_length k (drop 2 xs) in
    let long = length-drop 2 xs in
    let all : c.gauge_of-gauge.result.count ≡ in_use k (drop 2 xs) = omega (arith, seen.counted, used, long, c.requires.1.1) in
    let first = exact_sum k (take 2 xs) in
    let two = All-take (Number k) 2 xs c.requires.0 in
    let short : length (take 2 xs) ≤ 4096 = omega (arith, length-take 2 xs) in
    elim c.if-gauge-gt0.branch [
      | then-gauge-gt0 w ↦
          let few : c.gauge_of-gauge.result.count ≤ 4096 = omega (arith, all, used, long, c.requires.1.1) in
          let small = power_small k law (drop 2 xs) _ _ _ (All-drop (Number k) 2 xs c.requires.0) few w.ceiling.ensures seen.peak in
          let s = w.ceiling.result + c.gauge_of-gauge.result.peak in
          record {
            bound = 2 ^ s;
            reach = some w.ceiling.result c.gauge_of-gauge.result.peak (omega (arith, all, w.if-gauge-gt0.true)) (subst (λ n. Ceiling n w.ceiling.result) all w.ceiling.ensures) seen.peak;
            higher = c.outcome.ensures ∙ ap (λ z. answered (k.outcome z)) (ap value (w.high-is ∙ w.add_scaled.ensures) ∙ raised c.sum_of-high.result first s c.sum_of-high.ensures (exact_up k law (take 2 xs) s two short small));
            lower = c.outcome-2.ensures ∙ ap (λ z. answered (k.outcome z)) (ap value (w.low-is ∙ w.add_scaled-then-gauge-gt0.ensures) ∙ lowered c.sum_of-high.result first s c.sum_of-high.ensures (exact_down k law (take 2 xs) s two short small));
          }
      | else-gauge-gt0 w ↦
          record {
            bound = 0;
            reach = none (omega (arith, all, w.if-gauge-gt0.false));
            higher = c.outcome.ensures ∙ ap (λ z. answered (k.outcome z)) (ap value w.high-is ∙ c.sum_of-high.ensures ∙ sym (+ℤ_idr first));
            lower = c.outcome-2.ensures ∙ ap (λ z. answered (k.outcome z)) (ap value w.low-is ∙ c.sum_of-high.ensures ∙ sym (minus_zero first));
          }
    ]
