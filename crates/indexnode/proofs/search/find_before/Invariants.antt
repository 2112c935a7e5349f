use Rattle.std.proofs.Common.{◌≡◌, ◌≤◌, take}
use Rattle.indexnode.specs.Node.{at_point}
use Rattle.indexnode.proofs.search.find_before.Given as goal

abbrev pub invariant-loop-place : goal.invariant-loop-place
invariant-loop-place g l = record {
  within : l.place ≤ l.fn.end;
  passed : at_point l.key l.instant (take l.place l.references) ≡ at_point l.key l.instant (take l.fn.end l.references);
}

abbrev pub decreases-loop-place : goal.decreases-loop-place
decreases-loop-place g l = l.place
