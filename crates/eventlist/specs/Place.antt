-- Places in a list of events, which are in order.
use Rattle.std.specs.Prelude.{◌≡◌, ℕ, List, [], ◌∷◌, Bool, true, false, nat_le, nat_lt, Option, Some, None, if◌then◌else◌}
use Rattle.std.specs.Ordering.{match_ordering, is_lt}
use Rattle.std.specs.List.Sorted.{IsPartitionPoint}
use Rattle.values.specs.Event.{Event}
use Rattle.values.specs.Events.{bytes_cmp, is_bytes, event_cmp, later}

-- the first n events are those that pass the test
abbrev pub AreFirst : (Event → Bool) → List Event → ℕ → Type 0
AreFirst p es n = IsPartitionPoint (λ e. p e ≡ true) (λ e. p e ≡ false) es n

-- the event is of a lesser key, or of the key and at the instant or before it
abbrev pub is_until : List ℕ → ℕ → Event → Bool
is_until key t e = match_ordering (bytes_cmp e.key key) true (nat_le e.at t) false

-- there is an event, and it is so
abbrev pub is_until_at : List ℕ → ℕ → Option Event → Bool
is_until_at key t None = false
is_until_at key t (Some e) = is_until key t e

-- the event, if it is of the key
abbrev pub of_key : List ℕ → Option Event → Option Event
of_key key None = None
of_key key (Some e) = if is_bytes key e.key then Some e else None

-- the key's last event
abbrev pub last_event : List Event → List ℕ → Option Event
last_event [] key = None
last_event (e ∷ es) key = later (last_event es key) (if is_bytes key e.key then Some e else None)

abbrev pub is_before : Event → Event → Bool
is_before e d = is_lt (event_cmp d e)

-- the event's instant, where it is above another
abbrev pub since : ℕ → Option Event → Option ℕ
since start None = None
since start (Some e) = if nat_lt start e.at then Some e.at else None
