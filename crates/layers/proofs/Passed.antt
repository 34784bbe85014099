-- What an entry leaves of the account below, it leaves of the quota.
use Rattle.std.proofs.Common.{◌≡◌, ℕ, ◌≤◌, Ok, Err, Result}
use mathlib.Core.HLevel.{is_prop→PathP}
use Rattle.std.proofs.Math.Bridge.{le_prop}
use Rattle.refusals.specs.declared.Refusal.{Refusal}
use Rattle.kinds.specs.declared.kind.Kind as kind
use Rattle.accounts.specs.Meaning.{Leaves}
use Rattle.accounts.specs.declared.account.Account.{Ghosts}
use Rattle.layers.specs.Quota.{QuotaEnters}
use Rattle.layers.specs.declared.quota.Quota.{Quota}

module _ {K X S : Type 0} (k : kind.Ghosts K) (a : Ghosts X K S) where
  same : (before after : Quota K X S k a) → after.most ≡ before.most → after.below ≡ before.below → after ≡ before
  same before after e f i = record {
    below = f i;
    most = e i;
    kind = before.kind;
    few = is_prop→PathP (λ j. (a.meaning (f j)).entries ≤ e j) (λ j. le_prop) after.few before.few i;
  }

  pub quota_leaves : (before after : Quota K X S k a) (p : ℕ) (r : Result (Unit {0}) Refusal)
      → after.most ≡ before.most → Leaves (a.enters before.below p) before.below after.below r → Leaves (QuotaEnters k a before p) before after r
  quota_leaves before after p (Ok u) most leaves = record { below = leaves; most = most }
  quota_leaves before after p (Err e) most leaves = same before after most leaves
