use Rattle.std.proofs.Common.{◌≡◌, take}
use Rattle.datanode.proofs.node.shares_of.Given as goal

abbrev pub invariant-loop-event : goal.invariant-loop-event
invariant-loop-event l = l.shares.items ≡ take l.event-index l.events
