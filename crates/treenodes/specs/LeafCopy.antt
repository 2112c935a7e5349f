-- A data node that was copied before it is changed.
use Rattle.std.specs.Prelude.{◌≡◌, ℕ, ◌≤◌, List, length, nat_le, filter}
use Rattle.values.specs.Event.{Event}
use Rattle.datanode.specs.Node.{Node}
use Rattle.treenodes.specs.Node.{TreeNode, IsAt, data_node}
use Rattle.treenodes.specs.Map.{HoldsMap}

-- a node, and its number
pub record NumberedNode : Type 0 where
  pub number : ℕ
  pub node : Node

-- the node has that number, unpacked
abbrev pub IsCopyIn : List TreeNode → NumberedNode → Type 0
IsCopyIn nodes c = IsAt nodes c.number (data_node c.node)

-- the events at an instant or before it
abbrev pub until : ℕ → List Event → List Event
until t = filter (λ e. nat_le e.at t)

-- it was copied where the nodes held of a map what was there at an instant
pub record IsCopyOfPast (m : List Event) (t : ℕ) (c : NumberedNode) : Type 0 where
  pub nodes : List TreeNode
  pub copied : IsCopyIn nodes c
  pub held : HoldsMap nodes (until t m)

-- the node of the number has the same rectangle and as many events, and began at an instant or before it
pub record IsLike (nodes : List TreeNode) (t : ℕ) (c : NumberedNode) : Type 0 where
  pub node : Node
  pub there : IsAt nodes c.number (data_node node)
  pub rect : node.rect ≡ c.node.rect
  pub count : length node.events ≡ length c.node.events
  pub began : node.rect.time.from ≤ t
