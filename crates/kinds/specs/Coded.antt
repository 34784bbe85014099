-- What a kind tells by its coding.
use Rattle.numbers.specs.Coding.{Coding, opposite, adder, outcome}
use Rattle.kinds.specs.declared.kind.Kind.{Ghosts}

abbrev pub coded : {K : Type 0} → Coding → Ghosts K
coded k = record { number = k.number; worth = k.worth; opposite = opposite k; adder = adder k; outcome = outcome k }
