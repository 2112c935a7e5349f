-- A tree's shape.
use Rattle.std.specs.Prelude.{List, is_some, map}
use Rattle.std.specs.Ordering.{nat_cmp, ordering_then}
use Rattle.std.specs.declared.cmp.Ordering.{Ordering}
use Rattle.std.specs.List.Sorted.{IsStrictlySortedBy, IsPermutation}
use Rattle.values.specs.Events.{bytes_cmp}
use Rattle.treenodes.specs.Node.{TreeNode, count_of}
use Rattle.treewalk.specs.declared.shape.NodeShape.{NodeShape}

-- a node, as a shape shows it
abbrev pub node_shape : TreeNode → NodeShape
node_shape n =
    record { level = n.level; rect = n.rect; count = count_of n.content; packed = is_some n.packed }

-- from the root's level down, then by the start of time, then by the lower key
abbrev pub shape_cmp : NodeShape → NodeShape → Ordering
shape_cmp s t =
    ordering_then
    (nat_cmp t.level s.level)
    (ordering_then (nat_cmp s.rect.time.from t.rect.time.from)
    (bytes_cmp s.rect.keys.lo t.rect.keys.lo))

-- exactly the nodes, each once, in order
pub record IsShapeOf (nodes : List TreeNode) (shape : List NodeShape) : Type 0 where
  pub ordered : IsStrictlySortedBy shape_cmp shape
  pub whole : IsPermutation (map node_shape nodes) shape
