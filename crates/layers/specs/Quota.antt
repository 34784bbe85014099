-- A quota: what it means, and what its calls leave.
use Rattle.std.specs.Prelude.{◌≡◌, ℕ, min}
use Rattle.kinds.specs.declared.kind.Kind as kind
use Rattle.accounts.specs.Meaning.{Meaning}
use Rattle.accounts.specs.declared.account.Account.{Ghosts}
use Rattle.layers.specs.declared.quota.Quota.{Quota}
use Rattle.layers.specs.declared.quota.QuotaSetup.{QuotaSetup}

module _ {K X S : Type 0} (k : kind.Ghosts K) (a : Ghosts X K S) where
  -- the account below, with the smaller of the two limits
  abbrev pub quota_meaning : Quota K X S k a → Meaning
  quota_meaning q = record {
    total = (a.meaning q.below).total;
    entries = (a.meaning q.below).entries;
    limit = min q.most (a.meaning q.below).limit;
  }

  -- each call is the call below, and the quota stays what it was told
  pub record QuotaOpens (setup : QuotaSetup S) (q : Quota K X S k a) : Type 0 where
    pub below : a.opens setup.below q.below
    pub most : q.most ≡ setup.most

  pub record QuotaEnters (before : Quota K X S k a) (p : ℕ) (after : Quota K X S k a) : Type 0 where
    pub below : a.enters before.below p after.below
    pub most : after.most ≡ before.most

  pub record QuotaReads (before after : Quota K X S k a) : Type 0 where
    pub below : a.reads before.below after.below
    pub most : after.most ≡ before.most

  -- a quota as an account
  abbrev pub quota : Ghosts (Quota K X S k a) K (QuotaSetup S)
  quota = record {
    meaning = quota_meaning;
    agreed = λ s. min s.most (a.agreed s.below);
    opens = QuotaOpens;
    enters = QuotaEnters;
    reads = QuotaReads;
  }
