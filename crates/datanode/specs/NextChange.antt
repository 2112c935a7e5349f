-- A key's next change.
use Rattle.std.specs.Prelude.{ℕ, List, [], ◌∷◌, Option, Some, None, ◌&&◌, nat_lt, if◌then◌else◌}
use Rattle.values.specs.Event.{Event}
use Rattle.values.specs.Events.{is_bytes}

-- the instant of the key's first event above another
abbrev pub event_after : List Event → ℕ → List ℕ → Option ℕ
event_after [] after key = None
event_after (e ∷ es) after key =
    if is_bytes key e.key && nat_lt after e.at then Some e.at else event_after es after key
