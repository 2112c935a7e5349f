-- The blocks of a node of history.
use Rattle.std.specs.Prelude.{◌≡◌, ◌⊎◌, ℕ, ◌≤◌, Some, None, List, ◌∷◌, ◌++◌, length, All, IsSome}
use Rattle.datanode.specs.Node.{Node, IsNode, capacity}
use Rattle.blocks.specs.Event.{event_fields, IsKept}
use Rattle.blocks.specs.Rect.{rect_field, AreShortKeys}
use Rattle.blocks.specs.Start.{greatest_width, start_field}

-- the bytes of a node in either form: its rectangle, the number of its events, and each event
abbrev pub body_field : Node → List ℕ
body_field n = rect_field n.rect ++ (length n.events ∷ event_fields n.events)

-- its block of form 2, the one that is written
abbrev pub block_of : Node → List ℕ
block_of n = start_field (Some (greatest_width n.events)) ++ body_field n

-- its block of form 1, which is read too
abbrev pub first_block_of : Node → List ℕ
first_block_of n = start_field None ++ body_field n

-- which nodes have blocks: those of history, with events within the capacity, none of them before instant 1
pub record HasBlock (n : Node) : Type 0 where
  pub is_past : IsSome n.rect.time.to
  pub few : length n.events ≤ capacity
  pub instants : All (λ e. 1 ≤ e.at) n.events

-- as each node that a program holds
pub record IsHeldNode (n : Node) : Type 0 where
  pub node : IsNode n.rect n.events
  pub keys : AreShortKeys n.rect.keys
  pub events : All IsKept n.events

-- the bytes are the node's block of one of the forms
pub record IsBlockOf (bytes : List ℕ) (n : Node) : Type 0 where
  pub held : IsHeldNode n
  pub has_block : HasBlock n
  pub bytes_are : (bytes ≡ block_of n) ⊎ (bytes ≡ first_block_of n)
