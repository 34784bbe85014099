use Rattle.std.proofs.Common.{◌≡◌, ℕ, ◌*◌, ◌^◌, unsigned_abs, ◌∙◌, ap, le_of_eq, lt_of_le_of_lt, arith, to_z-of_z, SFits, rules}
use Rattle.std.specs.Int.{w128}
use borrow.Author.Differences.{ints}
use Rattle.numbers.specs.Nearest.{nearest_ℕ}
use Rattle.numbers.specs.Binary.{code}
use Rattle.binary.proofs.Nearby.{at_most_double, code_small}
use Rattle.binary.proofs.Signs.{left_small}
use Rattle.binary.proofs.Joins.{pattern_is, rest_is}
use Rattle.binary.proofs.adder.nearest.Goals as goal

pub signed-requires : goal.signed-requires
signed-requires g c =
    lt_of_le_of_lt (le_of_eq c.nearest_to-found.ensures.code) (code_small g.B.Binary.format g.B.Binary.FRACTION g.B.Binary.layout (c.unsigned_abs.result * 2 ^ c.args.shift))

pub left-requires : goal.left-requires
left-requires g c =
    let d = at_most_double g.B.Binary.format g.B.Binary.FRACTION g.B.Binary.layout c.unsigned_abs.result c.nearest_to-found.result.units c.args.shift c.nearest_to-found.ensures.units in
    omega (arith, ints)

pub returns : goal.returns
returns g c =
    let f = g.B.Binary.format in
    let k = g.B.Binary.FRACTION in
    let lay = g.B.Binary.layout in
    let v = c.args.sum in
    let u = 2 ^ c.args.shift in
    let n = c.nearest_to-found.result.units in
    let fits = c.ranges.sum in
    let fits_too : SFits w128 c.left.result = search rules in
    let m : c.unsigned_abs.result ≡ unsigned_abs v = omega (arith, ints) in
    let d = at_most_double f k lay c.unsigned_abs.result n c.args.shift c.nearest_to-found.ensures.units in
    let e = simp to_z-of_z at c.left.ensures in
    record {
      pattern =
          pattern_is f k lay v u c.nearest_to-found.result.code c.signed.result (c.nearest_to-found.ensures.code ∙ ap (λ (x : ℕ). code f (nearest_ℕ f (x * u))) m)
          (simp to_z-of_z at c.signed.ensures);
      rest = simp to_z-of_z (rest_is f k lay v c.left.result u n (c.nearest_to-found.ensures.units ∙ ap (λ (x : ℕ). nearest_ℕ f (x * u)) m) e);
      size = simp to_z-of_z (omega (arith, left_small v n (omega arith), ap unsigned_abs e));
    }
