-- What a data node that is looked at holds of the map.
use Rattle.std.proofs.Common.{◌≡◌, ℕ, true, List, subst}
use Rattle.std.specs.Prelude.{IsTrue}
use Rattle.values.specs.Event.{Event}
use Rattle.keyrange.specs.Rect.{has_point}
use Rattle.datanode.specs.Node.{Node, IsCutOf}
use Rattle.treenodes.specs.Node.{TreeNode, IsAt, data_node}
use Rattle.treenodes.specs.Map.{HoldsMap}
use Rattle.treenodes.specs.Lookup.{IsLeafAt}
use Rattle.treenodes.proofs.NodeNumbers.{one_at}

-- a data node is the cut of the map
pub cut_of : (nodes : List TreeNode) (m : List Event) → HoldsMap nodes m → (number : ℕ) (n : Node) → IsAt nodes number (data_node n) → IsCutOf n m
cut_of nodes m holds number n at = record { ordered = holds.ordered; events_are = holds.cuts number (data_node n) at }

-- the data node at the point is the one that was found
pub point_in : (nodes : List TreeNode) (key : List ℕ) (instant number : ℕ) (n : TreeNode) → IsLeafAt nodes key instant number → IsAt nodes number n → IsTrue (has_point n.rect key instant)
point_in nodes key instant number n leaf at =
    subst (λ (p : TreeNode). has_point p.rect key instant ≡ true) (one_at nodes number leaf.leaf.node n leaf.leaf.there at) leaf.holds
