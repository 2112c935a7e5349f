-- The first root, and a root over another.
use Rattle.std.specs.Prelude.{ℕ, ◌+◌, [], ◌∷◌, None}
use Rattle.treenodes.specs.Node.{TreeNode, References, data_node}
use Rattle.treenodes.specs.Tree.{whole}

-- a data node of the whole, without events
abbrev pub empty_leaf : TreeNode
empty_leaf = data_node (record { rect = whole; events = [] })

-- an index node with one reference, to a node of a number
abbrev pub root_over : TreeNode → ℕ → TreeNode
root_over n number = record {
  level = n.level + 1;
  rect = n.rect;
  content = References (record { rect = n.rect; child = number } ∷ []);
  packed = None;
}
