use Rattle.std.proofs.Common.{◌≤◌, ◌-◌, length}
use Rattle.eventlist.proofs.range.reach_below.Given as goal

abbrev pub invariant-loop-reach : goal.invariant-loop-reach
invariant-loop-reach l = 1 ≤ l.reach

abbrev pub decreases-loop-reach : goal.decreases-loop-reach
decreases-loop-reach l = length l.events - l.reach
