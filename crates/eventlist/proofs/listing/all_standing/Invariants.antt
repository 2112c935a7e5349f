use Rattle.std.proofs.Common.{◌≡◌, ◌++◌, filter, length}
use Rattle.std.specs.List.Sorted.{IsStrictlySortedBy}
use Rattle.values.specs.Events.{event_cmp}
use Rattle.eventlist.specs.Listing.{stands_at}
use Rattle.eventlist.proofs.listing.all_standing.Given as goal

abbrev pub invariant-loop-rest : goal.invariant-loop-rest
invariant-loop-rest l = record {
  to_come : l.found.items ++ filter (stands_at l.rest l.instant) l.rest ≡ filter (stands_at l.events l.instant) l.events;
  sorted : IsStrictlySortedBy event_cmp l.rest;
}

abbrev pub decreases-loop-rest : goal.decreases-loop-rest
decreases-loop-rest l = length l.rest
