use Rattle.std.proofs.Common.{◌≡◌, ◌+◌, [], ◌∷◌, get_or, take, pos, ◌+ℤ◌, sym, ap, ◌∙◌, take_all}
use lib.IntN.{+ℤ_idr}
use Rattle.std.proofs.lemmas.List.{take_more}
use Rattle.register.specs.Value.{value}
use Rattle.register.specs.Wrap.{half, wrap}
use Rattle.register.specs.Laws.{value_register_of}
use Rattle.register.specs.Whole.{half_pos}
use Rattle.register.specs.Wrapping.{wrap_left}
use Rattle.slots.specs.Pass.{exact_sum}
use Rattle.slots.proofs.Keeps.{exact_sum_append}
use Rattle.settle.proofs.Wide.{exact}
use Rattle.settle.proofs.adding.sum_of.Goals as goal

pub worth-requires : goal.worth-requires
worth-requires g c = c.requires.0 c.loop-p.p-index 0 c.loop-p-test.true

pub loop-p-init : goal.loop-p-init
loop-p-init g c = ap value c.zero-sum.ensures ∙ value_register_of (pos 0)

pub loop-p-preserved : goal.loop-p-preserved
loop-p-preserved g c =
    let k = g.K.Kind in
    let xs = c.args.numbers.now in
    let i = c.loop-p.p-index in
    let sum = exact_sum k (take i xs) in
    let x = get_or xs i 0 in
    let more : exact_sum k (take (i + 1) xs) ≡ sum +ℤ k.worth x =
    ap (exact_sum k) (take_more xs i 0 c.loop-p-test.true) ∙ exact_sum_append k (take i xs) (x ∷ []) ∙ ap (λ z. sum +ℤ z) (+ℤ_idr (k.worth x))
    in
    ap value c.add_scaled.ensures ∙ value_register_of _ ∙ ap (λ z. wrap (value c.loop-p.sum +ℤ z)) c.worth.ensures ∙ ap (λ z. wrap (z +ℤ k.worth x)) c.loop-p.invariant
    ∙ wrap_left half half_pos sum (k.worth x) ∙ ap wrap (sym more)

pub returns : goal.returns
returns g c =
    let xs = c.args.numbers.now in
    c.loop-p.invariant ∙ ap (λ ys. wrap (exact_sum g.K.Kind ys)) (take_all c.loop-p.p-index xs c.loop-p-test.false)
    ∙ exact g.K.Kind g.met.K.Kind.lawful xs c.requires.0 c.requires.1
