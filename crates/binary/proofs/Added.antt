-- What is settled of two numbers is what the adder answers.
use Rattle.std.proofs.Common.{◌≡◌, ℕ, T, ◌≢◌, ℤ, ◌+ℤ◌, sym, ap, ◌∙◌, subst, ap₂}
use Rattle.numbers.specs.Format.{Format, Holds, Nearest, far}
use Rattle.numbers.specs.Nearest.{nearest, remainder}
use Rattle.numbers.specs.Binary.{is_number, worth, pattern, binary}
use Rattle.numbers.specs.Coding.{adder}
use Rattle.numbers.proofs.Signed.{nearest_held, nearest_is, nearest_of_held}
use Rattle.numbers.proofs.Remainder.{remainder_held, adds_up}
use Rattle.numbers.proofs.Binary.{worth_held, worth_pattern, pattern_number, pattern_even, pattern_zero}
use Rattle.binary.specs.Layout.{Layout, Settled}
use Rattle.binary.specs.Sums.{Sums}
use Rattle.binary.proofs.Nearby.{lead_even}

module _ (f : Format) (k : ℕ) (lay : Layout f k) (a b : ℕ) (m : T (is_number f a)) (n : T (is_number f b)) where
  rest : Holds f (remainder f (worth f a) (worth f b))
  rest = remainder_held f (worth f a) (worth f b) (worth_held f lay.binary a m) (worth_held f lay.binary b n)

  module _ (v w : ℤ) (p : ℕ × ℕ) (x : v ≡ worth f a) (y : w ≡ worth f b) (s : Settled f (v +ℤ w) p.0 p.1) where
    -- the pair that the code has
    pub is_adder : p ≡ adder (binary f) a b
    is_adder =
        let t = subst (λ (z : ℤ). Settled f z p.0 p.1) (ap₂ ◌+ℤ◌ x y) s in
        let r = t.rest ∙ ap (pattern f) (nearest_of_held f (remainder f (worth f a) (worth f b)) rest) in
        λ i. (t.sum i, r i)

    pub sums : Sums f a b p.0 p.1
    sums =
        let u = worth f a +ℤ worth f b in
        let c = adder (binary f) a b in
        let back : worth f (pattern f (nearest f u)) ≡ nearest f u = worth_pattern f lay.binary (nearest f u) (nearest_held f u) in
        let e : worth f c.1 ≡ remainder f (worth f a) (worth f b) = worth_pattern f lay.binary _ rest in
        subst (λ (t : ℕ × ℕ). Sums f a b t.0 t.1) (sym is_adder)
        record {
          sum = pattern_number f lay.binary (nearest f u) (nearest_held f u);
          nearest = subst (Nearest f u) (sym back) (nearest_is f u);
          even =
              λ w h d i.
              pattern_even f lay.binary (lead_even f k lay) u w h (subst (λ (z : ℤ). w ≢ z) back d) (subst (λ (z : ℤ). far w u ≡ far z u) back i);
          remainder = pattern_number f lay.binary _ rest;
          exact = ap (λ (z : ℤ). z +ℤ worth f c.1) back ∙ ap (λ (z : ℤ). nearest f u +ℤ z) e ∙ adds_up f (worth f a) (worth f b);
          sum_zero = λ z. ap (pattern f) (sym back ∙ z) ∙ pattern_zero f lay.binary;
          remainder_zero = λ z. ap (pattern f) (sym e ∙ z) ∙ pattern_zero f lay.binary;
        }
