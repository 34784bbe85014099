-- What the register account means, and what a call leaves in it.
use Rattle.std.specs.Prelude.{◌≡◌, ◌+◌, ℤ, ◌+ℤ◌}
use Rattle.register.specs.Sum.{register_of, zero_register}
use Rattle.register.specs.Value.{value}
use Rattle.kinds.specs.declared.kind.Kind as kind
use Rattle.accounts.specs.Meaning.{Meaning}
use Rattle.accounts.specs.declared.account.Account.{Ghosts}
use Rattle.accounts.specs.declared.register_account.RegisterAccount.{RegisterAccount}

abbrev pub exact_meaning : RegisterAccount → Meaning
exact_meaning a = record { total = value a.sum; entries = a.count; limit = 4294967295 }

-- nothing was added yet
pub record Blank (a : RegisterAccount) : Type 0 where
  pub sum : a.sum ≡ zero_register
  pub count : a.count ≡ 0

-- the register has the worth w more, and one entry more is counted
pub record Entered (w : ℤ) (before after : RegisterAccount) : Type 0 where
  pub sum : after.sum ≡ register_of (value before.sum +ℤ w)
  pub count : after.count ≡ before.count + 1

-- the register account as an account of a kind
abbrev pub exact : {K : Type 0} → kind.Ghosts K → Ghosts RegisterAccount K (Unit {0})
exact k = record {
  meaning = exact_meaning;
  agreed = λ _. 4294967295;
  opens = λ _ a. Blank a;
  enters = λ a p b. Entered (k.worth p) a b;
  reads = λ a b. b ≡ a;
}
