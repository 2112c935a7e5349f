use Rattle.std.proofs.Common.{◌-◌, length}
use Rattle.treenodes.proofs.LookupSteps.{WalkedTo}
use Rattle.treenodes.proofs.lookup.leaf_at.Given as goal

abbrev pub invariant-loop-node : goal.invariant-loop-node
invariant-loop-node l = WalkedTo l.nodes l.key l.instant l.number l.visits

abbrev pub decreases-loop-node : goal.decreases-loop-node
decreases-loop-node l = length l.nodes - l.visits
