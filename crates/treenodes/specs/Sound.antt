-- A tree that holds the map that is read off it, in nodes that are not too large.
use Rattle.std.specs.Prelude.{◌≡◌, ℕ, ◌≤◌, List}
use Rattle.values.specs.Event.{Event}
use Rattle.datanode.specs.Node.{capacity}
use Rattle.treenodes.specs.Node.{TreeNode, IsAt, count_of}
use Rattle.treenodes.specs.Tree.{IsTree}
use Rattle.treenodes.specs.Map.{HoldsMap, changes, latest}

abbrev pub AreWithinCapacity : List TreeNode → Type 0
AreWithinCapacity nodes =
    (number : ℕ) (n : TreeNode) → IsAt nodes number n → count_of n.content ≤ capacity

-- a tree of nodes within capacity that holds the map
pub record IsTreeOf (nodes : List TreeNode) (m : List Event) : Type 0 where
  pub tree : IsTree nodes
  pub holds : HoldsMap nodes m
  pub small : AreWithinCapacity nodes

-- that holds its changes, the latest of them at the instant
pub record IsSound (nodes : List TreeNode) (last : ℕ) : Type 0 where
  pub kept : IsTreeOf nodes (changes nodes)
  pub last_is : last ≡ latest (changes nodes)
