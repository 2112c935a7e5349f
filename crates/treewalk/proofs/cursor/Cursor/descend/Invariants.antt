use Rattle.std.proofs.Common.{ℕ}
use Rattle.treenodes.proofs.LookupSteps.{WalkedTo}
use Rattle.treewalk.proofs.DescentSteps.{level_at}
use Rattle.treewalk.proofs.cursor.Cursor.descend.Given as goal

abbrev pub invariant-loop-node : goal.invariant-loop-node
invariant-loop-node l = (visits : ℕ) × WalkedTo l.nodes l.key l.instant l.number visits

abbrev pub decreases-loop-node : goal.decreases-loop-node
decreases-loop-node l = level_at l.nodes l.number
