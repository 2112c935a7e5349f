-- Which nodes stay in their places while events are put in.
use Rattle.std.specs.Prelude.{◌≡◌, ◌≢◌, ℕ, ◌+◌, ◌≤◌, List, length, filter}
use Rattle.values.specs.Event.{Event}
use Rattle.keyrange.specs.Rect.{has_point}
use Rattle.datanode.specs.Node.{capacity}
use Rattle.treenodes.specs.Node.{TreeNode, IsAt, count_of}

-- the node has room for those of the events that are at its points
abbrev pub HasRoom : TreeNode → List Event → Type 0
HasRoom n es =
    count_of n.content + length (filter (λ e. has_point n.rect e.key e.at) es) ≤ capacity

-- each data node has
abbrev pub HaveRoom : List TreeNode → List Event → Type 0
HaveRoom nodes es = (i : ℕ) (n : TreeNode) → IsAt nodes i n → n.level ≡ 0 → HasRoom n es

-- a node of the same level and the same rectangle has the number
pub record IsInPlace (nodes : List TreeNode) (number : ℕ) (n : TreeNode) : Type 0 where
  pub node : TreeNode
  pub there : IsAt nodes number node
  pub level : node.level ≡ n.level
  pub rect : node.rect ≡ n.rect

-- no node was split: each is in its place, and none is new
pub record HaveSamePlaces (before after : List TreeNode) : Type 0 where
  pub each : (i : ℕ) (n : TreeNode) → IsAt before i n → IsInPlace after i n
  pub long : length after ≡ length before

-- it is in its place, and has room for the events
pub record HasRoomIn (nodes : List TreeNode) (number : ℕ) (n : TreeNode) (es : List Event)
    : Type 0 where
  pub place : IsInPlace nodes number n
  pub room : HasRoom place.node es

-- some of the events were put in, and the rest is to come: a data node with room for all is in its place, with room for
-- the rest; where each data node has it, no node was split
pub record SplitsOverfull (es rest : List Event) (before after : List TreeNode) : Type 0 where
  pub leaves : (i : ℕ) (n : TreeNode) → IsAt before i n → n.level ≡ 0 → HasRoom n es
      → HasRoomIn after i n rest
  pub all : HaveRoom before es → HaveSamePlaces before after × HaveRoom after rest

-- ---- of one split

abbrev pub DoLeavesStay : List TreeNode → List TreeNode → Type 0
DoLeavesStay before after =
    (i : ℕ) (n : TreeNode) → IsAt before i n → n.level ≡ 0 → IsAt after i n

-- all but one
abbrev pub DoOtherLeavesStay : ℕ → List TreeNode → List TreeNode → Type 0
DoOtherLeavesStay number before after =
    (i : ℕ) (n : TreeNode) → i ≢ number → IsAt before i n → n.level ≡ 0 → IsAt after i n

-- only a data node over capacity is split
pub record IsRelieved (number : ℕ) (before after : List TreeNode) : Type 0 where
  pub others : DoOtherLeavesStay number before after
  pub small : ((n : TreeNode) → IsAt before number n → count_of n.content ≤ capacity)
      → after ≡ before
