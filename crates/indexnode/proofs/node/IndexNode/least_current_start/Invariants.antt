use Rattle.std.proofs.Common.{take}
use Rattle.std.specs.Prelude.{MatchOption, IsTrue}
use Rattle.std.specs.List.{All}
use Rattle.keyrange.specs.Rect.{is_area}
use Rattle.indexnode.specs.Choice.{HasNoCurrent, IsLeastStart}
use Rattle.indexnode.proofs.node.IndexNode.least_current_start.Given as goal

abbrev pub invariant-loop-reference : goal.invariant-loop-reference
invariant-loop-reference g l = record {
  least : MatchOption l.least (HasNoCurrent (take l.reference-index l.reference-items)) (IsLeastStart (take l.reference-index l.reference-items));
  areas : All (λ r. IsTrue (is_area r.rect.keys r.rect.time)) (take l.reference-index l.reference-items);
}
