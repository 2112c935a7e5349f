use Rattle.std.proofs.Common.{◌≡◌, take}
use Rattle.std.specs.List.{filter}
use Rattle.indexnode.specs.Split.{keeps}
use Rattle.indexnode.proofs.node.IndexNode.half.Given as goal

abbrev pub invariant-loop-reference : goal.invariant-loop-reference
invariant-loop-reference g l = l.references.items ≡ filter (λ r. keeps l.half r.rect) (take l.reference-index l.reference-items)
