use Rattle.std.proofs.Common.{◌≡◌}
use Rattle.accounts.specs.Entries.{meant, accepted}
use Rattle.accounts.proofs.readings.reading.Given as goal

-- the account means what it has accepted so far
abbrev pub invariant-loop-entry : goal.invariant-loop-entry
invariant-loop-entry g l =
    g.A.Account.meaning l.account ≡ meant (g.A.Account.meaning l.initial.account).limit (accepted g.K.Kind (g.A.Account.meaning l.initial.account).limit l.yielded)
