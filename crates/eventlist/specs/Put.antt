-- An event that is there already.
use Rattle.std.specs.Prelude.{Bool, false, Option, Some, None}
use Rattle.std.specs.Ordering.{is_eq}
use Rattle.values.specs.Event.{Event}
use Rattle.values.specs.Events.{event_cmp}

-- an event of e's key and instant
abbrev pub is_same : Event → Option Event → Bool
is_same e None = false
is_same e (Some d) = is_eq (event_cmp e d)
