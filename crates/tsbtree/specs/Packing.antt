-- Blocks in the places of nodes of history.
use Rattle.std.specs.Prelude.{◌≡◌, ℕ, List, Bool, true, false, IsTrue, slice_set}
use Rattle.blocks.specs.PackedNode.{Packed}
use Rattle.datanode.specs.Node.{Node}
use Rattle.keyrange.specs.Rect.{Area}
use Rattle.treenodes.specs.Node.{TreeNode, IsAt, data_node, packed_node}
use Rattle.treenodes.specs.Backlog.{is_unpacked}
use Rattle.tsbtree.specs.View.{TreeState}

-- an unpacked data node of history of the rectangle has the number
pub record IsHistoricalAt (nodes : List TreeNode) (rect : Area) (number : ℕ) : Type 0 where
  pub node : Node
  pub there : IsAt nodes number (data_node node)
  pub unpacked : IsTrue (is_unpacked (data_node node))
  pub same : node.rect ≡ rect

-- the node is one, under some number
pub record IsHistorical (nodes : List TreeNode) (rect : Area) (n : Node) : Type 0 where
  pub number : ℕ
  pub there : IsAt nodes number (data_node n)
  pub unpacked : IsTrue (is_unpacked (data_node n))
  pub same : n.rect ≡ rect

-- the block is in the place of its node
pub record Installs (old new : TreeState) (block : Packed) : Type 0 where
  pub number : ℕ
  pub there : IsAt old.nodes number (data_node block.node)
  pub placed : new ≡ record {
    nodes = slice_set old.nodes number (packed_node block);
    latest = old.latest;
  }

-- there is no such node, and nothing has changed
pub record InstallsNot (old new : TreeState) (block : Packed) : Type 0 where
  pub none : (number : ℕ) → IsAt old.nodes number (data_node block.node) → ⊥
  pub same : new ≡ old

-- a block takes the place of its node where that is unpacked
abbrev pub IsInstalled : Bool → TreeState → TreeState → Packed → Type 0
IsInstalled true old new block = Installs old new block
IsInstalled false old new block = InstallsNot old new block
