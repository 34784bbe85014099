-- What a register and a scaled number mean.
use Rattle.std.specs.Prelude.{ℕ, ℤ}
use Rattle.register.specs.Limbs.{nat_of}
use Rattle.register.specs.Wrap.{value_of, scaled}
use Rattle.register.specs.declared.Register.{Register}
use Rattle.register.specs.declared.scaled.Scaled.{Scaled}

-- a register's value in two's complement
abbrev pub value : Register → ℤ
value r = value_of r.limbs

-- its bits as a number with no sign
abbrev pub bits : Register → ℕ
bits r = nat_of r.limbs

abbrev pub meant : Scaled → ℤ
meant s = scaled s.negative s.magnitude s.shift
