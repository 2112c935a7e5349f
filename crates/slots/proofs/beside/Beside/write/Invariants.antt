use Rattle.std.proofs.Common.{◌≡◌, ◌≤◌, length, drop}
use Rattle.slots.specs.Beside.{over}
use Rattle.slots.proofs.beside.Beside.write.Given as goal

abbrev pub invariant-loop-left : goal.invariant-loop-left
invariant-loop-left g l = record {
  bound : l.left ≤ length l.items;
  is : l.tree.1 ≡ over l.fn.tree.1 (drop l.left l.items);
}

abbrev pub decreases-loop-left : goal.decreases-loop-left
decreases-loop-left g l = l.left
