use Rattle.std.proofs.Common.{◌≡◌, take}
use Rattle.indexnode.proofs.node.IndexNode.copy.Given as goal

abbrev pub invariant-loop-reference : goal.invariant-loop-reference
invariant-loop-reference g l = l.references.items ≡ take l.reference-index l.reference-items
