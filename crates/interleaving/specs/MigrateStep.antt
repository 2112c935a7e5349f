-- What a migrate step makes of the tree.
use Rattle.std.specs.Prelude.{◌≡◌, ◌⊎◌, ℕ, None, slice_set}
use Rattle.blocks.specs.Block.{block_of}
use Rattle.datanode.specs.Node.{Node}
use Rattle.treenodes.specs.Node.{TreeNode, IsAt, data_node, packed_node}
use Rattle.treenodes.specs.Backlog.{IsWaiting, IsFirstWaiting}
use Rattle.tsbtree.specs.View.{TreeState}

-- the first data node of history without a block has one now
pub record HasPacked (old new : TreeState) : Type 0 where
  pub node : Node
  pub first : IsFirstWaiting old.nodes None (data_node node)
  pub number : ℕ
  pub there : IsAt old.nodes number (data_node node)
  pub placed : new ≡ record {
    nodes = slice_set old.nodes number
        (packed_node (record { node = node; bytes = block_of node }));
    latest = old.latest;
  }

-- there is none, and nothing has changed
pub record HasNone (old new : TreeState) : Type 0 where
  pub none : (n : TreeNode) → IsWaiting old.nodes None n → ⊥
  pub same : new ≡ old

abbrev pub WasPacked : TreeState → TreeState → Type 0
WasPacked old new = HasPacked old new ⊎ HasNone old new
