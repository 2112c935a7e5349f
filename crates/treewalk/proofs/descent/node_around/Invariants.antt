use Rattle.treewalk.specs.Level.{IsAround}
use Rattle.treewalk.proofs.DescentSteps.{level_at}
use Rattle.treewalk.proofs.descent.node_around.Given as goal

abbrev pub invariant-loop-node : goal.invariant-loop-node
invariant-loop-node l = IsAround l.nodes l.rect l.number

abbrev pub decreases-loop-node : goal.decreases-loop-node
decreases-loop-node l = level_at l.nodes l.number
