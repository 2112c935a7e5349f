use Rattle.std.proofs.Common.{◌≡◌, ◌≤◌, length, take}
use Rattle.std.specs.List.{filter}
use Rattle.indexnode.specs.Split.{ends_after}
use Rattle.indexnode.proofs.node.IndexNode.stay_count.Given as goal

abbrev pub invariant-loop-reference : goal.invariant-loop-reference
invariant-loop-reference g l = record {
  counted : l.count ≡ length (filter (λ r. ends_after l.instant r.rect) (take l.reference-index l.reference-items));
  bound : l.count ≤ l.reference-index;
}
