use Rattle.indexnode.specs.Node.{Tiles}
use Rattle.tree_tests.proofs.search_tests.parts.Given as goal

abbrev pub invariant-loop-number : goal.invariant-loop-number
invariant-loop-number g l = Tiles l.node.rect l.node.references.items
