use Rattle.tsbtree.proofs.SameLists.{AreSame}
use Rattle.tsbtree.proofs.same.NodesSame.is_same.Given as goal

abbrev pub invariant-loop-number : goal.invariant-loop-number
invariant-loop-number l = AreSame l.self l.other l.number
