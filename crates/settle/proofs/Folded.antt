-- The fold of the gauges of some numbers is their gauge.
use Rattle.std.proofs.Common.{◌≡◌, ℕ, ◌+◌, ◌^◌, ◌<◌, ◌≤◌, min, max, List, [], ◌∷◌, ◌++◌, length, get_or, take, fold, sym, ◌∙◌, subst, inl, inr, lt_of_lt_of_le, arith, pow_mono, ap, lt-ltb, le-ltb, nat_lt}
use Rattle.std.specs.List.{AllZip}
use Rattle.std.specs.Int.{from_bool}
use Rattle.std.proofs.lemmas.List.{take_more}
use Rattle.std.proofs.lemmas.Bool.{cases_lt}
use Rattle.std.proofs.lemmas.Slice.Zip.{all_zipped_more}
use Rattle.settle.specs.declared.gauge.Gauge.{Gauge}
use Rattle.settle.specs.Both.{none_seen, both}
use Rattle.slots.specs.Pass.{in_use}
use Rattle.register.specs.Limbs.{LeastBits}
use Rattle.kinds.specs.declared.kind.Kind.{Ghosts}
use Rattle.std.proofs.lemmas.List.Elements.{All-nil, All-cons, All-head, All-tail}
use Rattle.settle.proofs.Powers.{under_weaker}
use Rattle.settle.specs.Seen.{Below, One, Many, Peak}

-- a number with bits is one in use
pub counted_by : (m s n : ℕ) → LeastBits m s → n ≡ from_bool (nat_lt 0 s) → n ≡ min 1 m
counted_by m s n z e =
    elim (cases_lt 0 s) [
      | inl h ↦
          elim (cases_lt 0 m) [
            | inl a ↦ e ∙ ap from_bool (lt-ltb 0 s h) ∙ omega arith
            | inr a ↦ let b : m < 2 ^ 0 = omega arith in absurd (omega (arith, z.least 0 b))
          ]
      | inr h ↦
          let i : s ≡ 0 = omega arith in
          let b : m < 2 ^ 0 = subst (λ k. m < 2 ^ k) i z.enough in
          e ∙ ap from_bool (le-ltb 0 s h) ∙ omega arith
    ]

-- each gauge is that of its number
abbrev pub Ones : {K : Type 0} → Ghosts K → List ℕ → List Gauge → Type 0
Ones k = AllZip (One k)

module _ {K : Type 0} (k : Ghosts K) where
  pub ones_more : (xs : List ℕ) (gs : List Gauge) (i : ℕ) (g : Gauge) → i < length xs → Ones k (take i xs) gs → One k (get_or xs i 0) g → Ones k (take (i + 1) xs) (gs ++ (g ∷ []))
  ones_more xs gs i g h e o = subst (λ ys. Ones k ys (gs ++ (g ∷ []))) (sym (take_more xs i 0 h)) (all_zipped_more (One k) (take i xs) gs (get_or xs i 0) g e o)

  -- after more of them
  count_from : (a : Gauge) (xs : List ℕ) (gs : List Gauge) → Ones k xs gs → (fold both a gs).count ≡ min (a.count + in_use k xs) 4294967295
  count_from a [] [] e = omega (arith, a.fits)
  count_from a [] (g ∷ gs) e = absurd e
  count_from a (x ∷ xs) [] e = absurd e
  count_from a (x ∷ xs) (g ∷ gs) e =
      let r = count_from (both a g) xs gs e.1 in
      let c = e.0.counted in
      omega (arith, r, c)

  abbrev tops : List Gauge → ℕ
  tops [] = 0
  tops (g ∷ gs) = max g.peak (tops gs)

  peak_from : (a : Gauge) (gs : List Gauge) → (fold both a gs).peak ≡ max a.peak (tops gs)
  peak_from a [] = omega arith
  peak_from a (g ∷ gs) = let r = peak_from (both a g) gs in omega (arith, r)

  peak_tops : (xs : List ℕ) (gs : List Gauge) → Ones k xs gs → Peak k xs (tops gs)
  peak_tops [] [] e = record { under = All-nil (Below k 0); least = λ q u. omega arith }
  peak_tops [] (g ∷ gs) e = absurd e
  peak_tops (x ∷ xs) [] e = absurd e
  peak_tops (x ∷ xs) (g ∷ gs) e =
      let r = peak_tops xs gs e.1 in
      let z = e.0.sized in
      let le : g.peak ≤ max g.peak (tops gs) = omega arith in
      record {
        under =
            All-cons (Below k (max g.peak (tops gs))) x xs (lt_of_lt_of_le z.enough (pow_mono le))
            (under_weaker k (tops gs) (max g.peak (tops gs)) xs (omega arith) r.under);
        least = λ q u.
            let a = z.least q (All-head (Below k q) x xs u) in
            let b = r.least q (All-tail (Below k q) x xs u) in
            omega arith;
      }

  pub many : (xs : List ℕ) (gs : List Gauge) → Ones k xs gs → Many k xs (fold both none_seen gs)
  many xs gs e =
      let p : tops gs ≡ (fold both none_seen gs).peak = omega (arith, peak_from none_seen gs) in
      record {
        counted = count_from none_seen xs gs e ∙ omega arith;
        peak = subst (Peak k xs) p (peak_tops xs gs e);
      }
