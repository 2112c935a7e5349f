-- Nodes that have grown over their capacity, up a way to the root.
use Rattle.std.specs.Prelude.{◌≡◌, ◌≢◌, ◌⊎◌, ℕ, ◌+◌, ◌<◌, ◌≤◌, List, None, length, slice_index_or, All}
use Rattle.std.specs.List.{Any}
use Rattle.values.specs.Event.{Event}
use Rattle.datanode.specs.Node.{Node, capacity}
use Rattle.treenodes.specs.Node.{TreeNode, IsAt, IsIndexNode, count_of, data_node}
use Rattle.treenodes.specs.Lookup.{IsParent}
use Rattle.treenodes.specs.Split.{Halved}
use Rattle.treegrowth.specs.declared.point.SplitPoint.{SplitPoint}
use Rattle.treegrowth.specs.Point.{CanSplitAt, HalvesFit}

-- numbers from the root's down to a depth, each that of the next one's parent
pub record IsWayDown (nodes : List TreeNode) (way : List ℕ) (depth : ℕ) : Type 0 where
  pub within : depth < length way
  pub from_root : (d : ℕ) → slice_index_or way 0 d ≡ 0
  pub leads :
      (k d : ℕ) → k < depth → IsParent nodes (slice_index_or way k d) (slice_index_or way (k + 1) d)

-- all nodes but one are within capacity
abbrev pub AreOthersSmall : List TreeNode → ℕ → Type 0
AreOthersSmall nodes number =
    (i : ℕ) (n : TreeNode) → i ≢ number → IsAt nodes i n → count_of n.content ≤ capacity

-- current, and over capacity by one event or reference at most
pub record IsGrown (n : TreeNode) : Type 0 where
  pub current : n.rect.time.to ≡ None
  pub count : count_of n.content ≤ capacity + 1

-- an index node that may be over capacity
pub record IsGrownIndex (nodes : List TreeNode) (number : ℕ) : Type 0 where
  pub node : TreeNode
  pub there : IsAt nodes number node
  pub is_index : IsIndexNode node.content
  pub grown : IsGrown node

-- one that is
pub record IsOverfull (nodes : List TreeNode) (number : ℕ) : Type 0 where
  pub grown : IsGrownIndex nodes number
  pub over : capacity < count_of grown.node.content

-- some events are after the last instant, and they are all of one instant
pub record IsAmidCommit (es : List Event) (last : ℕ) : Type 0 where
  pub instant : ℕ
  pub some : Any (λ e. last < e.at) es
  pub others : All (λ e. (e.at ≤ last) ⊎ (e.at ≡ instant)) es

-- a data node that may be over capacity, once it took an event of a commit after the last instant
pub record IsGrownLeaf (nodes : List TreeNode) (number last : ℕ) : Type 0 where
  pub node : Node
  pub there : IsAt nodes number (data_node node)
  pub grown : IsGrown (data_node node)
  pub amid : IsAmidCommit node.events last

-- a data node that is split into halves within capacity, where all others are
pub record IsSplittable (nodes : List TreeNode) (number : ℕ) (point : SplitPoint) : Type 0 where
  pub node : Node
  pub there : IsAt nodes number (data_node node)
  pub others : AreOthersSmall nodes number
  pub can : CanSplitAt nodes number point
  pub fit : HalvesFit node point

-- two within capacity in the place of an index node
pub record IsIndexSplit (before after : List TreeNode) (parent number : ℕ) : Type 0 where
  pub first : TreeNode
  pub second : TreeNode
  pub halved : Halved before after parent number first second
  pub first_level : 0 < first.level
  pub second_level : 0 < second.level
  pub first_small : count_of first.content ≤ capacity
  pub second_small : count_of second.content ≤ capacity
