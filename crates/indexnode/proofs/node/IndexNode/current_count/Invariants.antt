use Rattle.std.proofs.Common.{◌≡◌, ◌≤◌, take}
use Rattle.indexnode.specs.Choice.{current_count}
use Rattle.indexnode.proofs.node.IndexNode.current_count.Given as goal

abbrev pub invariant-loop-reference : goal.invariant-loop-reference
invariant-loop-reference g l = record {
  counted : l.current ≡ current_count (take l.reference-index l.reference-items);
  bound : l.current ≤ l.reference-index;
}
