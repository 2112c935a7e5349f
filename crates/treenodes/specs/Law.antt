-- What is true of every tree.
use Rattle.std.specs.Prelude.{◌≡◌, ℕ, List}
use Rattle.values.specs.Event.{Event}
use Rattle.keyrange.specs.Rect.{Common}
use Rattle.indexnode.specs.declared.reference.Reference.{Reference}
use Rattle.treenodes.specs.Node.{TreeNode}
use Rattle.treenodes.specs.Tree.{RefersTo, IsTree}
use Rattle.treenodes.specs.Map.{HoldsMap, changes}

-- a tree holds one map, and it is what the events of its data nodes give
abbrev pub MapIsRead : Type 0
MapIsRead =
    (nodes : List TreeNode) (m : List Event) → IsTree nodes → HoldsMap nodes m → changes nodes ≡ m

-- references of one level whose rectangles meet name one node, and have one rectangle
abbrev pub MeetingReferencesAreOne : Type 0
MeetingReferencesAreOne =
    (nodes : List TreeNode) (level : ℕ) (r s : Reference ℕ)
    → IsTree nodes → RefersTo nodes level r → RefersTo nodes level s
    → Common r.rect s.rect → (r.child ≡ s.child) × (r.rect ≡ s.rect)
