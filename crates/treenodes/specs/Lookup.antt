-- The data node at a point, and the way to it.
use Rattle.std.specs.Prelude.{◌≡◌, ℕ, ◌+◌, ◌-◌, ◌<◌, List, Some, IsTrue, length, slice_get, slice_index_or}
use Rattle.std.specs.List.{Any}
use Rattle.keyrange.specs.Rect.{has_point}
use Rattle.treenodes.specs.Node.{TreeNode, IsAt, IsDataNode, references_of}

-- the number is that of a data node
pub record IsData (nodes : List TreeNode) (number : ℕ) : Type 0 where
  pub node : TreeNode
  pub there : IsAt nodes number node
  pub bottom : node.level ≡ 0
  pub is_data : IsDataNode node.content

-- and that has the point
pub record IsLeafAt (nodes : List TreeNode) (key : List ℕ) (instant number : ℕ) : Type 0 where
  pub leaf : IsData nodes number
  pub holds : IsTrue (has_point leaf.node.rect key instant)

-- a node with a reference to another
pub record IsParent (nodes : List TreeNode) (parent number : ℕ) : Type 0 where
  pub node : TreeNode
  pub there : IsAt nodes parent node
  pub refers : Any (λ r. r.child ≡ number) (references_of node.content)

-- a way down: each node of it is the parent of the next
abbrev pub IsWay : List TreeNode → List ℕ → Type 0
IsWay nodes way =
    (k d : ℕ) → k + 1 < length way
    → IsParent nodes (slice_index_or way k d) (slice_index_or way (k + 1) d)

-- from the root to the data node at a point
pub record IsWayTo (nodes : List TreeNode) (key : List ℕ) (instant : ℕ) (way : List ℕ)
    : Type 0 where
  pub leads : IsWay nodes way
  pub from_root : (d : ℕ) → slice_index_or way 0 d ≡ 0
  pub number : ℕ
  pub last : slice_get way (length way - 1) ≡ Some number
  pub leaf : IsLeafAt nodes key instant number
