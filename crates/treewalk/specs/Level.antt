-- Which nodes of a level have a point of a rectangle.
use Rattle.std.specs.Prelude.{◌≡◌, ℕ, ◌<◌, List, All, Contains}
use Rattle.std.specs.List.Sorted.{IsStrictlyIncreasing}
use Rattle.keyrange.specs.Rect.{Area, Common, IsInside}
use Rattle.treenodes.specs.Node.{TreeNode, IsAt, IsIndexNode}
use Rattle.treenodes.specs.Lookup.{IsData}

-- the number of a node of the level that has a point of the rectangle
pub record MeetsAt (nodes : List TreeNode) (level : ℕ) (area : Area) (number : ℕ) : Type 0 where
  pub node : TreeNode
  pub there : IsAt nodes number node
  pub of_level : node.level ≡ level
  pub common : Common node.rect area

-- the numbers of all nodes of the level that have a point of the rectangle, each once and in order
pub record AreMeeting (nodes : List TreeNode) (level : ℕ) (area : Area) (numbers : List ℕ)
    : Type 0 where
  pub ordered : IsStrictlyIncreasing numbers
  pub each : All (MeetsAt nodes level area) numbers
  pub whole : (number : ℕ) → MeetsAt nodes level area number → Contains numbers number

-- the root is above the level
abbrev pub IsBelowRoot : List TreeNode → ℕ → Type 0
IsBelowRoot nodes level = (root : TreeNode) → IsAt nodes 0 root → level < root.level

-- each is the number of an index node
abbrev pub AreIndexes : List TreeNode → List ℕ → Type 0
AreIndexes nodes numbers =
    All (λ number. (n : TreeNode) × (IsAt nodes number n × IsIndexNode n.content)) numbers

-- each is the number of a data node
abbrev pub AreLeaves : List TreeNode → List ℕ → Type 0
AreLeaves nodes numbers = All (IsData nodes) numbers

-- the number of a node that has all points of the rectangle
pub record IsAround (nodes : List TreeNode) (area : Area) (number : ℕ) : Type 0 where
  pub node : TreeNode
  pub there : IsAt nodes number node
  pub inside : IsInside area node.rect
