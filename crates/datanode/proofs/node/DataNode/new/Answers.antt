use Rattle.std.proofs.Common.{subst, sym}
use Rattle.values.specs.Events.{event_cmp}
use Rattle.eventlist.proofs.PlaceOrder.{sorted_none}
use Rattle.datanode.specs.Cut.{IsMap}
use Rattle.datanode.proofs.node.DataNode.new.Goals as goal

pub node_of-requires-clause-map : goal.node_of-requires-clause-map
node_of-requires-clause-map c = subst IsMap (sym c.new.ensures.items) (sorted_none event_cmp)
