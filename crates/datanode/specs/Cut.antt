-- Which changes of a map a rectangle holds. A map is a list of events in order.
use Rattle.std.specs.Prelude.{ℕ, List, Bool, ◌&&◌, ◌||◌, not, nat_lt, is_some, filter, Option}
use Rattle.std.specs.List.{list_any}
use Rattle.std.specs.List.Sorted.{IsStrictlySortedBy}
use Rattle.values.specs.Event.{Event}
use Rattle.values.specs.Events.{event_cmp}
use Rattle.keyrange.specs.declared.range.TimeRange.{TimeRange}
use Rattle.keyrange.specs.Rect.{Area, has_point}
use Rattle.keyrange.specs.Range.{is_key_in, is_time_in}
use Rattle.eventlist.specs.Overtaking.{overtakes, is_overtaken}

-- by key and then by instant, one event for each key and instant
abbrev pub IsMap : List Event → Type 0
IsMap = IsStrictlySortedBy event_cmp

-- its point is one of the rectangle's
abbrev pub lies_in : Area → Event → Bool
lies_in r e = has_point r e.key e.at

-- a row from before the instant, which no later event of its key has overtaken by then
unfoldable pub is_carried : List Event → ℕ → Event → Bool
is_carried m t e = nat_lt e.at t && (is_some e.row && not (list_any (overtakes e t) m))

-- its instant is one of the range's, or it is carried to the first of them
abbrev pub is_held_in : TimeRange → List Event → Event → Bool
is_held_in time m e = is_time_in time e.at || is_carried m time.from e

unfoldable pub in_cut : Area → List Event → Event → Bool
in_cut r m e = is_key_in r.keys e.key && is_held_in r.time m e

-- the events that lie in the rectangle, and for each key of its range with no event at its first instant the last one
-- before it, where that is a row
abbrev pub cut : Area → List Event → List Event
cut r m = filter (in_cut r m) m

-- a row from before the instant, which the next event has not overtaken by then
abbrev pub stays_to : Event → ℕ → Option Event → Bool
stays_to e t next = nat_lt e.at t && (is_some e.row && not (is_overtaken e t next))
