-- A data node that was copied from a view of a tree.
use Rattle.std.specs.Prelude.{◌≡◌, ℕ}
use Rattle.treenodes.specs.LeafCopy.{NumberedNode, IsCopyIn, until}
use Rattle.treenodes.specs.Sound.{IsSound}
use Rattle.tsbtree.specs.View.{TreeState, events, last}

-- from a view that shows what there is in the tree at an instant or before it
pub record IsCopyOf (c : TreeState) (t : ℕ) (copy : NumberedNode) : Type 0 where
  pub view : TreeState
  pub sound : IsSound view.nodes (last view)
  pub copied : IsCopyIn view.nodes copy
  pub past : events view ≡ until t (events c)
