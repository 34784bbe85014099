use Rattle.std.proofs.Common.{◌≡◌, [], take}
use Rattle.layers.specs.Tray.{entries_kept}
use Rattle.layers.specs.Staged.{with_kept, EntersAll}
use Rattle.layers.proofs.staged.Staged.hand_down.Given as goal

-- the first entries are below, and nothing is kept
abbrev pub invariant-loop-i : goal.invariant-loop-i
invariant-loop-i g l = record {
  below : EntersAll g.A.Account.enters l.fn.self.below (take l.i (entries_kept l.tray)) l.self.below;
  after : g.A.Account.meaning l.self.below ≡ with_kept g.K.Kind.worth (take l.i (entries_kept l.tray)) (g.A.Account.meaning l.fn.self.below);
  none : entries_kept l.self.tray ≡ [];
}
