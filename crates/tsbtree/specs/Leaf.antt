-- The data node at a point.
use Rattle.std.specs.Prelude.{ℕ, List, IsTrue}
use Rattle.keyrange.specs.Rect.{has_point}
use Rattle.datanode.specs.Node.{IsCutOf}
use Rattle.treenodes.specs.declared.node.Child.{Child}
use Rattle.treenodes.specs.Node.{IsAt, IsDataNode, content_of, rect_of, seen}
use Rattle.treewalk.specs.Leaf.{node_in}
use Rattle.tsbtree.specs.View.{TreeState, events}

-- one of the nodes, whose rectangle has the point; its events are what the rectangle holds of all
pub record IsLeafOf (c : TreeState) (key : List ℕ) (instant : ℕ) (child : Child) : Type 0 where
  pub number : ℕ
  pub there : IsAt c.nodes number (seen 0 child)
  pub is_data : IsDataNode (content_of child)
  pub holds : IsTrue (has_point (rect_of child) key instant)
  pub cut : IsCutOf (node_in child) (events c)
