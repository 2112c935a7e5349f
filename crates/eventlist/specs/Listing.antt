-- What is listed of a list of events.
use Rattle.std.specs.Prelude.{ℕ, List, Bool, ◌&&◌, ◌||◌, not, nat_le, nat_lt, is_some, filter}
use Rattle.std.specs.List.{list_any}
use Rattle.values.specs.Event.{Event}
use Rattle.values.specs.Events.{is_bytes}
use Rattle.keyrange.specs.declared.range.KeyRange.{KeyRange}
use Rattle.keyrange.specs.Range.{is_key_in}
use Rattle.eventlist.specs.Overtaking.{overtakes}

-- the events of a range of keys, from an instant to another and with it
abbrev pub events_in : List Event → KeyRange → ℕ → ℕ → List Event
events_in es range from to =
    filter (λ e. is_key_in range e.key && (nat_le from e.at && nat_le e.at to)) es

-- e's row holds at the instant
unfoldable pub stands_at : List Event → ℕ → Event → Bool
stands_at es t e = nat_le e.at t && (is_some e.row && not (list_any (overtakes e t) es))

-- by key: of each key that passes a test, the event whose row holds at an instant
abbrev pub standing : List Event → (List ℕ → Bool) → ℕ → List Event
standing es p t = filter (λ e. p e.key && stands_at es t e) es

-- an event of the key, above an instant, up to another and with it
abbrev pub is_of_key : List ℕ → ℕ → ℕ → Event → Bool
is_of_key key after last e = is_bytes key e.key && (nat_lt after e.at && nat_le e.at last)

-- the event's row holds at the first instant, or it is after that one, up to the last and with it
abbrev pub is_in_window : List Event → ℕ → ℕ → Event → Bool
is_in_window es first last e = stands_at es first e || (nat_lt first e.at && nat_le e.at last)
