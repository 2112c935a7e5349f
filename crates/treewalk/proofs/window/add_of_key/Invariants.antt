use Rattle.std.proofs.Common.{◌≡◌, ◌++◌, drop, filter}
use Rattle.values.specs.Event.{Event}
use Rattle.values.specs.Events.{is_bytes}
use Rattle.treewalk.proofs.window.add_of_key.Given as goal

abbrev pub invariant-loop-event : goal.invariant-loop-event
invariant-loop-event l =
    l.found.items ++ filter (λ (e : Event). is_bytes l.key e.key) (drop l.event-index l.events) ≡ l.fn.found.items ++ filter (λ (e : Event). is_bytes l.key e.key) l.events
