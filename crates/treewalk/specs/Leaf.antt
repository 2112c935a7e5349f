-- A data node that is looked into, packed or not.
use Rattle.std.specs.Prelude.{ℕ, Bool, false, Option, Some, None, nat_le}
use Rattle.datanode.specs.Node.{Node}
use Rattle.treenodes.specs.declared.node.Child.{Child}
use Rattle.treenodes.specs.Node.{rect_of, content_of, events_of}

-- its rectangle and its events; an index node has none
abbrev pub node_in : Child → Node
node_in child = record { rect = rect_of child; events = events_of (content_of child) }

-- there is an instant, and it is at most another
abbrev pub is_upto : Option ℕ → ℕ → Bool
is_upto None instant = false
is_upto (Some first) instant = nat_le first instant
