use Rattle.std.proofs.Common.{◌≡◌, take, nat_lt}
use Rattle.treewalk.specs.RangeChange.{latest_among}
use Rattle.treewalk.proofs.range_change.latest_above.Given as goal

abbrev pub invariant-loop-event : goal.invariant-loop-event
invariant-loop-event l = l.latest ≡ latest_among (λ e. nat_lt l.start e.at) (take l.event-index l.events)
