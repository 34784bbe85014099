-- Slips may cross threads, and threads may share them, whatever the kind: they hold words and arrays of words, and own nothing of the kind.
use denote.RattleType.{RattleType}
use denote.Param.Send.{IsSend, IsSync, sendable}
use Rattle.kinds.specs.declared.kind.Kind.{Ghosts}
use Rattle.slips.specs.contracts.slips.Slips.{the_row}

module _ (K : RattleType) (k : Ghosts K.Denot) where
  pub slips_send : IsSend (the_row K k)
  slips_send = search sendable depth 20

  pub slips_sync : IsSync (the_row K k)
  slips_sync = search sendable depth 20
