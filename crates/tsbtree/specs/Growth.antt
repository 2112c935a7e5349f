-- What a call makes of a tree.
use Rattle.std.specs.Prelude.{◌≡◌, ℕ, ◌<◌, List, Bool, true, false, Option, None, [], length}
use Rattle.values.specs.Event.{Event}
use Rattle.keyrange.specs.Rect.{Area}
use Rattle.treenodes.specs.Node.{TreeNode}
use Rattle.treegrowth.specs.Commit.{put_each}
use Rattle.treegrowth.specs.Leaves.{IsCurrentLeaf, IsSplitIn}
use Rattle.tsbtree.specs.View.{TreeState, events, last}

-- the second is the first with the events of a commit at an instant; without events it is the first
pub record Adds (instant : ℕ) (es : List Event) (old new : TreeState) : Type 0 where
  pub events_are : events new ≡ put_each es (events old)
  pub last_is : 0 < length es → last new ≡ instant
  pub none : es ≡ [] → new ≡ old

-- what was committed is the same
pub record HoldsSame (old new : TreeState) : Type 0 where
  pub events_are : events new ≡ events old
  pub last_is : last new ≡ last old

-- the halves are in the place of a data node's rectangle; or there are none, and nothing has changed
abbrev pub IsSplit : Bool → TreeState → TreeState → Area → Option (Area × Area) → Type 0
IsSplit true old new rect halves = IsSplitIn old.nodes new.nodes rect halves
IsSplit false old new rect halves = (halves ≡ None) × (new ≡ old)

-- the current data node of a key is split where there are halves
pub record IsSplitAt (key : List ℕ) (halves : Area → Option (Area × Area)) (old new : TreeState)
    (done : Bool) : Type 0 where
  pub leaf : TreeNode
  pub current : IsCurrentLeaf old.nodes key leaf
  pub split : IsSplit done old new leaf.rect (halves leaf.rect)
