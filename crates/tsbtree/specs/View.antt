-- A tree of changes, and a view of it, as contracts see them.
use Rattle.std.specs.Prelude.{◌≡◌, ℕ, ◌≤◌, ◌+◌, ◌==◌, List, [], ◌∷◌, Some, None, if◌then◌else◌, slice_get}
use Rattle.values.specs.Event.{Event}
use Rattle.values.specs.Commits.{max_instant}
use Rattle.treenodes.specs.Node.{TreeNode}
use Rattle.treenodes.specs.Map.{changes}
use Rattle.treenodes.specs.Root.{empty_leaf}
use Rattle.treenodes.specs.Sound.{IsSound}

-- the nodes, and the instant of the last commit
pub record TreeState : Type 0 where
  pub nodes : List TreeNode
  pub latest : ℕ

-- the events of all that was committed, by key and then by instant
abbrev pub events : TreeState → List Event
events c = changes c.nodes

-- the instant of the last commit, 0 where there is none
abbrev pub last : TreeState → ℕ
last c = c.latest

-- a sound tree up to an instant
pub record IsState (nodes : List TreeNode) (latest : ℕ) : Type 0 where
  pub sound : IsSound nodes latest
  pub within : latest ≤ max_instant

-- nothing was committed yet: the nodes are one data node over the whole, without events and unpacked
pub record IsEmpty (c : TreeState) : Type 0 where
  pub no_event : events c ≡ []
  pub no_commit : last c ≡ 0
  pub one_leaf : c.nodes ≡ empty_leaf ∷ []

-- how many levels the nodes have
abbrev pub levels : TreeState → ℕ
levels c = elim (slice_get c.nodes 0) [ None ↦ 0 | Some root ↦ root.level + 1 ]

-- how many nodes a look-up visits: one for each level, and none before the first instant
abbrev pub visits : TreeState → ℕ → ℕ
visits c instant = if instant == 0 then 0 else levels c
