-- Events of one key and one instant tie.
use Rattle.std.specs.Prelude.{◌≡◌, List, true}
use Rattle.std.specs.List.{Any}
use Rattle.std.specs.Ordering.{eq_by_cmp}
use Rattle.values.specs.Event.{Event}
use Rattle.values.specs.Events.{event_cmp}

-- one of the events has e's key and instant
abbrev pub HasTie : Event → List Event → Type 0
HasTie e es = Any (λ d. eq_by_cmp event_cmp e d ≡ true) es
