-- The gauge of one number, and of many.
use Rattle.std.specs.Prelude.{◌≡◌, ℕ, ◌^◌, ◌<◌, ◌≤◌, min, All, List, unsigned_abs}
use Rattle.register.specs.Limbs.{LeastBits}
use Rattle.kinds.specs.declared.kind.Kind.{Ghosts}
use Rattle.slots.specs.Pass.{in_use}
use Rattle.settle.specs.declared.gauge.Gauge.{Gauge}

module _ {K : Type 0} (k : Ghosts K) where
  -- the magnitude of a number is below 2 ^ p, and so is every one
  abbrev pub Below : ℕ → ℕ → Type 0
  Below p x = unsigned_abs (k.worth x) < 2 ^ p

  abbrev pub Under : ℕ → List ℕ → Type 0
  Under p xs = All (Below p) xs

  -- p is the least for which every magnitude is below 2 ^ p
  pub record Peak (xs : List ℕ) (p : ℕ) : Type 0 where
    pub under : Under p xs
    pub least : (q : ℕ) → Under q xs → p ≤ q

  pub record One (x : ℕ) (r : Gauge) : Type 0 where
    pub counted : r.count ≡ min 1 (unsigned_abs (k.worth x))
    pub sized : LeastBits (unsigned_abs (k.worth x)) r.peak

  pub record Many (xs : List ℕ) (r : Gauge) : Type 0 where
    pub counted : r.count ≡ min (in_use k xs) 4294967295
    pub peak : Peak xs r.peak
