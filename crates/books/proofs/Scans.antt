-- A scan over joined lists, and how many results it has.
use Rattle.std.proofs.Common.{◌≡◌, List, [], ◌∷◌, ◌++◌, length, refl, ap, arith}
use Rattle.std.specs.Prelude.{fold, scan}

module _ {S X Y : Type 0} (next : S → X → S) (out : S → X → Y) where
  pub scan_append : (a : S) (xs ys : List X) → scan next out a (xs ++ ys) ≡ scan next out a xs ++ scan next out (fold next a xs) ys
  scan_append a [] ys = refl
  scan_append a (x ∷ xs) ys = ap (λ (zs : List Y). out a x ∷ zs) (scan_append (next a x) xs ys)

  pub length_scan : (a : S) (xs : List X) → length (scan next out a xs) ≡ length xs
  length_scan a [] = refl
  length_scan a (x ∷ xs) = let e = length_scan (next a x) xs in omega arith
