-- A data node takes an event.
use Rattle.std.specs.Prelude.{None}
use Rattle.values.specs.Event.{Event}
use Rattle.values.specs.Events.{put_event}
use Rattle.datanode.specs.Cut.{cut}
use Rattle.datanode.specs.Node.{Accepts}
use Rattle.treenodes.specs.Node.{TreeNode, Events, IsDataNode, events_of}

-- a data node that accepts the event
pub record AcceptsEvent (n : TreeNode) (e : Event) : Type 0 where
  pub is_data : IsDataNode n.content
  pub accepted : Accepts (record { rect = n.rect; events = events_of n.content }) e

-- the node with the event
abbrev pub with_put : TreeNode → Event → TreeNode
with_put n e = record {
  level = n.level;
  rect = n.rect;
  content = Events (cut n.rect (put_event e (events_of n.content)));
  packed = None;
}
