-- A data node, as contracts see it.
use Rattle.std.specs.Prelude.{◌≡◌, ℕ, ◌<◌, List, [], ◌∷◌, Option, Some, None, ◌&&◌, ◌||◌, nat_le, is_some, is_none, Bool, true, nat_lt, All, IsTrue, if◌then◌else◌}
use Rattle.values.specs.Event.{Event}
use Rattle.values.specs.Events.{is_bytes, later}
use Rattle.keyrange.specs.Rect.{Area, has_point, IsArea}
use Rattle.keyrange.specs.Range.{is_early}
use Rattle.eventlist.specs.Place.{last_event}
use Rattle.datanode.specs.Cut.{IsMap, cut}

-- the most that a node of a tree may have: events, or references
abbrev pub capacity : ℕ
capacity = 64

-- a rectangle, and the events that it holds
pub record Node : Type 0 where
  pub rect : Area
  pub events : List Event

-- in order, and of themselves the rectangle holds all
pub record IsNode (rect : Area) (events : List Event) : Type 0 where
  pub area : IsArea rect
  pub ordered : IsMap events
  pub whole : events ≡ cut rect events

-- its events are those that its rectangle holds of the map
pub record IsCutOf (n : Node) (m : List Event) : Type 0 where
  pub ordered : IsMap m
  pub events_are : n.events ≡ cut n.rect m

-- later than each event of its key
abbrev pub IsLast : Event → List Event → Type 0
IsLast e = All (λ d. d.key ≡ e.key → d.at < e.at)

-- which events a node accepts: it has no end, its rectangle holds the event's point, and the event is later than
-- each of its key
pub record Accepts (n : Node) (e : Event) : Type 0 where
  pub current : n.rect.time.to ≡ None
  pub inside : IsTrue (has_point n.rect e.key e.at)
  pub last : IsLast e n.events

-- the key's last event before an end, which may be none
abbrev pub last_before : Option ℕ → List Event → List ℕ → Option Event
last_before end [] key = None
last_before end (e ∷ es) key =
    later
    (last_before end es key)
    (if is_bytes key e.key && is_early e.at end then Some e else None)

-- an event, unless it is a deletion before the instant
abbrev pub kept_from : ℕ → Option Event → Option Event
kept_from from None = None
kept_from from (Some e) = if nat_le from e.at || is_some e.row then Some e else None

-- the event is later than the other, where there is one
abbrev pub is_after : Event → Option Event → Bool
is_after e None = true
is_after e (Some d) = nat_lt d.at e.at

-- the test of it
abbrev pub accepts : Node → Event → Bool
accepts n e =
    is_none n.rect.time.to
    && (has_point n.rect e.key e.at && is_after e (last_event n.events e.key))
