use Rattle.std.proofs.Common.{◌≡◌, map, take, All}
use Rattle.std.specs.List.{filter}
use Rattle.indexnode.specs.Node.{meet, MeetsWhereCommon}
use Rattle.indexnode.proofs.node.IndexNode.meeting.Given as goal

abbrev pub invariant-loop-reference : goal.invariant-loop-reference
invariant-loop-reference g l = record {
  found : map (λ r. r.now) l.found.items ≡ filter (λ r. meet r.rect l.rect) (take l.reference-index l.reference-items);
  common : All (MeetsWhereCommon l.rect) (take l.reference-index l.reference-items);
}
