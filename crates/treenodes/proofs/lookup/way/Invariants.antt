use Rattle.std.proofs.Common.{◌-◌, length}
use Rattle.treenodes.proofs.LookupWays.{WayTo}
use Rattle.treenodes.proofs.lookup.way.Given as goal

abbrev pub invariant-loop-node : goal.invariant-loop-node
invariant-loop-node l = WayTo l.nodes l.key l.instant l.number l.way.items

abbrev pub decreases-loop-node : goal.decreases-loop-node
decreases-loop-node l = length l.nodes - length l.way.items
