-- A layer may cross threads, or threads may share it, as the account below it may, whatever the kind: beside that account it holds words and an array of words, and owns nothing of the kind.
use denote.RattleType.{RattleType}
use denote.Param.Send.{IsSend, IsSync, sendable}
use Rattle.kinds.specs.declared.kind.Kind as kind
use Rattle.accounts.specs.declared.account.Account.{Ghosts}
use Rattle.layers.specs.contracts.quota.Quota as Quota
use Rattle.layers.specs.contracts.staged.Staged as Staged

module _ (K A S : RattleType) (k : kind.Ghosts K.Denot) (a : Ghosts A.Denot K.Denot S.Denot) where
  pub quota_send : IsSend A → IsSend (Quota.the_row K A S k a)
  quota_send s = search sendable depth 20

  pub quota_sync : IsSync A → IsSync (Quota.the_row K A S k a)
  quota_sync s = search sendable depth 20

  pub staged_send : IsSend A → IsSend (Staged.the_row K A S k a)
  staged_send s = search sendable depth 20

  pub staged_sync : IsSync A → IsSync (Staged.the_row K A S k a)
  staged_sync s = search sendable depth 20
