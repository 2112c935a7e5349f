-- What makes numbered nodes a tree.
use Rattle.std.specs.Prelude.{◌≡◌, ℕ, ◌+◌, ◌<◌, ◌≤◌, List, [], None, length, All}
use Rattle.keyrange.specs.Rect.{Area, Common, IsArea}
use Rattle.indexnode.specs.declared.reference.Reference.{Reference}
use Rattle.indexnode.specs.Node.{Tiles, AllMeet}
use Rattle.indexnode.specs.Split.{AreCurrentIn}
use Rattle.treenodes.specs.Node.{Content, Events, References, TreeNode, IsAt}

-- the reference names a node one level down, and has its rectangle
pub record RefersTo (nodes : List TreeNode) (level : ℕ) (r : Reference ℕ) : Type 0 where
  pub node : TreeNode
  pub there : IsAt nodes r.child node
  pub below : level ≡ node.level + 1
  pub same : r.rect ≡ node.rect

-- an index node: its references tile it, each has a point of it, and the current ones lie inside
pub record IsIndex (nodes : List TreeNode) (level : ℕ) (rect : Area)
    (references : List (Reference ℕ)) : Type 0 where
  pub tiled : Tiles rect references
  pub meet : AllMeet rect references
  pub inside : AreCurrentIn rect references
  pub below : All (RefersTo nodes level) references

-- the data nodes are those of level 0
abbrev pub HasContent : List TreeNode → ℕ → Area → Content → Type 0
HasContent nodes level rect (Events es) = level ≡ 0
HasContent nodes level rect (References rs) = IsIndex nodes level rect rs

-- all keys, and all instants from 1 on
abbrev pub whole : Area
whole = record { keys = record { lo = []; hi = None }; time = record { from = 1; to = None } }

-- the node of number 0 is the root, which covers the whole
pub record HasRoot (nodes : List TreeNode) : Type 0 where
  pub root : TreeNode
  pub first : IsAt nodes 0 root
  pub covers : root.rect ≡ whole

-- two nodes of one level have no point in common
abbrev pub AreApart : List TreeNode → Type 0
AreApart nodes =
    (i j : ℕ) (n p : TreeNode) → IsAt nodes i n → IsAt nodes j p → n.level ≡ p.level
    → Common n.rect p.rect → i ≡ j

pub record IsTree (nodes : List TreeNode) : Type 0 where
  pub root : HasRoot nodes
  pub areas : (i : ℕ) (n : TreeNode) → IsAt nodes i n → IsArea n.rect
  pub contents : (i : ℕ) (n : TreeNode) → IsAt nodes i n → HasContent nodes n.level n.rect n.content
  pub levels : (i : ℕ) (n : TreeNode) → IsAt nodes i n → n.level ≤ root.root.level
  pub height : root.root.level < length nodes
  pub apart : AreApart nodes
