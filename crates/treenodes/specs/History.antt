-- What becomes of nodes of history.
use Rattle.std.specs.Prelude.{◌≡◌, ℕ, List, IsSome}
use Rattle.treenodes.specs.Node.{TreeNode, IsAt}

-- each node that has ended stays under its number, its block with it, and none is packed that was not
pub record KeepsHistory (before after : List TreeNode) : Type 0 where
  pub past : (i : ℕ) (n : TreeNode) → IsAt before i n → IsSome n.rect.time.to → IsAt after i n
  pub packed : (i : ℕ) (n : TreeNode) → IsAt after i n → IsSome n.packed → IsAt before i n

-- the node as it was, but that it may have got a block
pub record IsKept (nodes : List TreeNode) (number : ℕ) (n : TreeNode) : Type 0 where
  pub node : TreeNode
  pub there : IsAt nodes number node
  pub level : node.level ≡ n.level
  pub rect : node.rect ≡ n.rect
  pub content : node.content ≡ n.content
  pub block : IsSome n.packed → node.packed ≡ n.packed

-- each node that has ended stays under its number, and its block with it; it may be packed
abbrev pub KeepsPast : List TreeNode → List TreeNode → Type 0
KeepsPast before after =
    (i : ℕ) (n : TreeNode) → IsAt before i n → IsSome n.rect.time.to → IsKept after i n
