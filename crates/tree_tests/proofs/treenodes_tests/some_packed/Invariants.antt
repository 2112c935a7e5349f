use Rattle.treenodes.specs.Tree.{IsTree}
use Rattle.tree_tests.proofs.treenodes_tests.some_packed.Given as goal

abbrev pub invariant-loop-number : goal.invariant-loop-number
invariant-loop-number g l = IsTree l.nodes
