-- The nodes of a tree, which have numbers.
use Rattle.std.specs.Prelude.{◌≡◌, ℕ, List, [], Option, Some, None, length, slice_get}
use Rattle.values.specs.Event.{Event}
use Rattle.keyrange.specs.Rect.{Area}
use Rattle.datanode.specs.Node.{Node}
use Rattle.blocks.specs.PackedNode.{Packed as Block}
use Rattle.indexnode.specs.declared.reference.Reference.{Reference}
use Rattle.treenodes.specs.declared.node.Child.{Child}
use Rattle.treenodes.specs.declared.node.Child.TheVariants.{Data, Packed, Index}

-- a data node holds events, an index node references to the numbers of nodes
pub data Content : Type 0 where
  Events : List Event → Content
  References : List (Reference ℕ) → Content

-- a node: its level, counted from the data nodes up, its rectangle, what it holds, and its block where it is packed
pub record TreeNode : Type 0 where
  pub level : ℕ
  pub rect : Area
  pub content : Content
  pub packed : Option (List ℕ)

-- the node that has the number
abbrev pub IsAt : List TreeNode → ℕ → TreeNode → Type 0
IsAt nodes number n = slice_get nodes number ≡ Some n

abbrev pub rect_of : Child → Area
rect_of (Data n) = n.rect
rect_of (Packed b) = b.node.rect
rect_of (Index x) = x.rect

abbrev pub content_of : Child → Content
content_of (Data n) = Events n.events
content_of (Packed b) = Events b.node.events
content_of (Index x) = References x.references.items

-- its block, where it is packed
abbrev pub packed_of : Child → Option (List ℕ)
packed_of (Data n) = None
packed_of (Packed b) = Some b.bytes
packed_of (Index x) = None

-- a child at a level, as contracts see it
abbrev pub seen : ℕ → Child → TreeNode
seen level child = record {
  level = level;
  rect = rect_of child;
  content = content_of child;
  packed = packed_of child;
}

-- a data node, as a node of a tree
abbrev pub data_node : Node → TreeNode
data_node n = record { level = 0; rect = n.rect; content = Events n.events; packed = None }

-- one that is packed
abbrev pub packed_node : Block → TreeNode
packed_node b = record {
  level = 0;
  rect = b.node.rect;
  content = Events b.node.events;
  packed = Some b.bytes;
}

abbrev pub IsDataNode : Content → Type 0
IsDataNode (Events es) = Unit {0}
IsDataNode (References rs) = ⊥

abbrev pub IsIndexNode : Content → Type 0
IsIndexNode (Events es) = ⊥
IsIndexNode (References rs) = Unit {0}

abbrev pub events_of : Content → List Event
events_of (Events es) = es
events_of (References rs) = []

abbrev pub references_of : Content → List (Reference ℕ)
references_of (Events es) = []
references_of (References rs) = rs

-- how many events or references a node has
abbrev pub count_of : Content → ℕ
count_of (Events es) = length es
count_of (References rs) = length rs
