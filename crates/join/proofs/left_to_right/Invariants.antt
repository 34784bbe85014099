use Rattle.std.proofs.Common.{◌≡◌, ◌≤◌, length, take, fold}
use Rattle.join.proofs.left_to_right.Given as goal

abbrev pub invariant-loop-item : goal.invariant-loop-item
invariant-loop-item g l = let m = g.J.Join in (l.item-index ≤ length l.items) × (l.all ≡ fold m.joined m.neutral (take l.item-index l.items))
