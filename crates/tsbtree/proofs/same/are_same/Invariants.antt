use Rattle.tsbtree.proofs.SameLists.{AreSame}
use Rattle.tsbtree.proofs.same.are_same.Given as goal

abbrev pub invariant-loop-place : goal.invariant-loop-place
invariant-loop-place g l = AreSame l.first l.second l.place
