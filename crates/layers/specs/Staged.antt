-- A staged account: the account below with the entries that are kept, and what its calls leave.
use Rattle.std.specs.Prelude.{◌≡◌, ℕ, ◌+◌, ◌<◌, List, [], ◌∷◌, ◌++◌, length, ℤ, ◌+ℤ◌, fold}
use Rattle.kinds.specs.declared.kind.Kind as kind
use Rattle.accounts.specs.Meaning.{Meaning}
use Rattle.accounts.specs.declared.account.Account.{Ghosts}
use Rattle.layers.specs.Tray.{entries_kept}
use Rattle.layers.specs.declared.staged.Staged.{Staged}

-- the account m with these entries more
abbrev pub with_kept : (ℕ → ℤ) → List ℕ → Meaning → Meaning
with_kept worth ps m = record { total = fold (λ sum p. sum +ℤ worth p) m.total ps; entries = m.entries + length ps; limit = m.limit }

-- x becomes y by entering the patterns one after the other
abbrev pub EntersAll : {X : Type 0} → (X → ℕ → X → Type 0) → X → List ℕ → X → Type 0
EntersAll enters x [] y = y ≡ x
EntersAll {X} enters x (p ∷ ps) y = (z : X) × (enters x p z × EntersAll enters z ps y)

module _ {K X S : Type 0} (k : kind.Ghosts K) (a : Ghosts X K S) where
  abbrev pub staged_meaning : Staged K X S k a → Meaning
  staged_meaning s = with_kept k.worth (entries_kept s.tray) (a.meaning s.below)

  -- all that was kept was entered below, in order, and nothing is kept
  pub record HandedDown (before after : Staged K X S k a) : Type 0 where
    pub below : EntersAll a.enters before.below (entries_kept before.tray) after.below
    pub none : entries_kept after.tray ≡ []

  -- sixteen are handed down, fewer are kept on
  pub record Roomy (before after : Staged K X S k a) : Type 0 where
    pub fewer : length (entries_kept before.tray) < 16 → after ≡ before
    pub sixteen : length (entries_kept before.tray) ≡ 16 → HandedDown before after

  pub record StagedOpens (setup : S) (s : Staged K X S k a) : Type 0 where
    pub below : a.opens setup s.below
    pub none : entries_kept s.tray ≡ []

  -- once there is room, the entry is kept behind the others
  pub record StagedEnters (before : Staged K X S k a) (p : ℕ) (after : Staged K X S k a) : Type 0 where
    pub ready : Staged K X S k a
    pub roomy : Roomy before ready
    pub below : after.below ≡ ready.below
    pub kept : entries_kept after.tray ≡ entries_kept ready.tray ++ p ∷ []

  -- all is handed down, and then the account below is read
  pub record StagedReads (before after : Staged K X S k a) : Type 0 where
    pub ready : Staged K X S k a
    pub handed : HandedDown before ready
    pub below : a.reads ready.below after.below
    pub none : entries_kept after.tray ≡ []

  -- a staged account as an account
  abbrev pub staged : Ghosts (Staged K X S k a) K S
  staged = record {
    meaning = staged_meaning;
    agreed = a.agreed;
    opens = StagedOpens;
    enters = StagedEnters;
    reads = StagedReads;
  }
