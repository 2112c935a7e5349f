-- The map that a tree holds.
use Rattle.std.specs.Prelude.{◌≡◌, ℕ, ◌≤◌, List, [], ◌∷◌, max, Option, Some, None, All}
use Rattle.values.specs.Event.{Event}
use Rattle.values.specs.Commits.{max_instant}
use Rattle.values.specs.Events.{put_event}
use Rattle.keyrange.specs.Rect.{Area}
use Rattle.datanode.specs.Cut.{IsMap, cut}
use Rattle.datanode.specs.Node.{IsLast}
use Rattle.treenodes.specs.Node.{Content, Events, References, TreeNode, IsAt, events_of}

-- each instant is one from 1 to the last
abbrev pub AreInstants : List Event → Type 0
AreInstants m = All (λ e. (1 ≤ e.at) × (e.at ≤ max_instant)) m

-- a data node holds the cut of the map
abbrev pub IsCut : List Event → Area → Content → Type 0
IsCut m rect (Events es) = es ≡ cut rect m
IsCut m rect (References rs) = Unit {0}

-- the latest instant of events, or 0
abbrev pub latest : List Event → ℕ
latest [] = 0
latest (e ∷ es) = max e.at (latest es)

-- a data node that has ended did so by the instant
abbrev pub EndsBy : ℕ → Content → Option ℕ → Type 0
EndsBy last (Events es) (Some end) = end ≤ last
EndsBy last (Events es) None = Unit {0}
EndsBy last (References rs) to = Unit {0}

-- the data nodes hold the map: each is its cut, and none ends after its latest instant
pub record HoldsMap (nodes : List TreeNode) (m : List Event) : Type 0 where
  pub ordered : IsMap m
  pub instants : AreInstants m
  pub cuts : (i : ℕ) (n : TreeNode) → IsAt nodes i n → IsCut m n.rect n.content
  pub ended : (i : ℕ) (n : TreeNode) → IsAt nodes i n → EndsBy (latest m) n.content n.rect.time.to

-- events, each put in its place among others
abbrev pub put_all : List Event → List Event → List Event
put_all [] m = m
put_all (e ∷ es) m = put_event e (put_all es m)

-- the events of all data nodes, each once
abbrev pub changes : List TreeNode → List Event
changes [] = []
changes (n ∷ ns) = put_all (events_of n.content) (changes ns)

-- the event comes next: at an instant, not before any other, and later than each of its key
pub record IsNext (m : List Event) (e : Event) : Type 0 where
  pub first : 1 ≤ e.at
  pub upto : e.at ≤ max_instant
  pub latest_before : latest m ≤ e.at
  pub last : IsLast e m
