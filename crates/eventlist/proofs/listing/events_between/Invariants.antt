use Rattle.std.proofs.Common.{◌≡◌, ◌++◌, ◌&&◌, drop, filter, nat_le}
use Rattle.values.specs.Event.{Event}
use Rattle.eventlist.proofs.listing.events_between.Given as goal

abbrev pub invariant-loop-event : goal.invariant-loop-event
invariant-loop-event l = l.found.items ++ filter (λ (e : Event). nat_le l.from e.at && nat_le e.at l.to) (drop l.event-index l.events) ≡ filter (λ (e : Event). nat_le l.from e.at && nat_le e.at l.to) l.events
