-- The rectangles of a tree's data nodes.
use Rattle.std.specs.Prelude.{◌≡◌, ◌≢◌, ◌⊎◌, ◌↔◌, ℕ, List, Option, Some, None, nat_le, IsTrue, if◌then◌else◌}
use Rattle.keyrange.specs.Rect.{Area}
use Rattle.keyrange.specs.Range.{is_key_in}
use Rattle.keyrange.specs.Cut.{halves_by_time}
use Rattle.treenodes.specs.Node.{TreeNode, IsAt}

-- some data node has the rectangle
pub record IsLeafRect (nodes : List TreeNode) (area : Area) : Type 0 where
  pub number : ℕ
  pub node : TreeNode
  pub there : IsAt nodes number node
  pub bottom : node.level ≡ 0
  pub has : node.rect ≡ area

abbrev pub HaveSameLeaves : List TreeNode → List TreeNode → Type 0
HaveSameLeaves before after = (area : Area) → IsLeafRect after area ↔ IsLeafRect before area

-- two halves take the place of one rectangle, and all others stay
abbrev pub IsLeafSplit : List TreeNode → List TreeNode → Area → Area × Area → Type 0
IsLeafSplit before after split halves =
    (area : Area) → IsLeafRect after area
    ↔ ((IsLeafRect before area × (area ≢ split)) ⊎ ((area ≡ halves.0) ⊎ (area ≡ halves.1)))

-- where there are halves, they do so
pub record IsSplitIn (before after : List TreeNode) (split : Area) (halves : Option (Area × Area))
    : Type 0 where
  pub pair : Area × Area
  pub are : halves ≡ Some pair
  pub leaves : IsLeafSplit before after split pair

-- the halves at an instant that is not after the last one
abbrev pub halves_upto : ℕ → Area → ℕ → Option (Area × Area)
halves_upto last r instant = if nat_le instant last then halves_by_time r instant else None

-- the current data node of a key
pub record IsCurrentLeaf (nodes : List TreeNode) (key : List ℕ) (n : TreeNode) : Type 0 where
  pub number : ℕ
  pub there : IsAt nodes number n
  pub bottom : n.level ≡ 0
  pub current : n.rect.time.to ≡ None
  pub has : IsTrue (is_key_in n.rect.keys key)
