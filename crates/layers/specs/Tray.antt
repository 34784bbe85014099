-- What a table of kept entries means.
use Rattle.std.specs.Prelude.{ℕ, List, take}
use Rattle.layers.specs.declared.staged.Tray.{Tray}

-- the entries that are kept, the oldest first; further words of the table mean nothing
abbrev pub entries_kept : Tray → List ℕ
entries_kept t = take t.len t.kept
