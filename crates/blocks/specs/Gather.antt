-- The events of a block are gathered to a node.
use Rattle.std.specs.Prelude.{◌≡◌, ℕ, ◌≤◌, ◌-◌, List, [], Bool, true, ◌&&◌, Option, Some, None, length, slice_get}
use Rattle.std.specs.Ordering.{is_lt}
use Rattle.values.specs.Event.{Event}
use Rattle.values.specs.Events.{event_cmp}
use Rattle.keyrange.specs.Rect.{Area}
use Rattle.keyrange.specs.Range.{is_key_in}
use Rattle.datanode.specs.Node.{Node, IsNode, capacity}
use Rattle.blocks.specs.Event.{events_from}

-- the keys of a rectangle at all instants
abbrev pub at_all_times : Area → Area
at_all_times r = record { keys = r.keys; time = record { from = 1; to = None } }

-- the event is behind another, where there is one
abbrev pub is_behind : Event → Option Event → Bool
is_behind e None = true
is_behind e (Some d) = is_lt (event_cmp d e)

abbrev pub last_of : List Event → Option Event
last_of es = slice_get es (length es - 1)

-- the event may follow those of the node
unfoldable pub is_next : Node → Event → Bool
is_next n e = is_key_in n.rect.keys e.key && is_behind e (last_of n.events)

-- so many events were read, and are those of the node
pub record IsGathered (r : Area) (n : ℕ) (bytes : List ℕ) (node : Node)
    (rest : List ℕ) : Type 0 where
  pub rect_is : node.rect ≡ at_all_times r
  pub events_are : events_from n bytes ≡ Some (node.events, rest)

-- there are not so many events, or they form no node
abbrev pub NoNodeFrom : Area → ℕ → List ℕ → Type 0
NoNodeFrom r n bytes =
    (es : List Event) (rest : List ℕ)
    → events_from n bytes ≡ Some (es, rest) → IsNode r es → ⊥

-- the node of the rectangle and of events within the capacity, with no bytes after them
pub record IsCountedNode (r : Area) (n : ℕ) (bytes : List ℕ) (node : Node) : Type 0 where
  pub few : n ≤ capacity
  pub is_node : IsNode node.rect node.events
  pub rect_is : node.rect ≡ r
  pub events_are : events_from n bytes ≡ Some (node.events, [])

-- there are more, or bytes follow them, or they form no node
abbrev pub NoCountedNode : Area → ℕ → List ℕ → Type 0
NoCountedNode r n bytes =
    (es : List Event) → n ≤ capacity → events_from n bytes ≡ Some (es, []) → IsNode r es → ⊥
