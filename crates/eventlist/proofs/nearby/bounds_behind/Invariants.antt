use Rattle.std.proofs.Common.{◌≡◌, ◌≤◌, ◌-◌, true, length}
use Rattle.std.specs.List.{AllWithin}
use Rattle.eventlist.specs.Place.{is_until}
use Rattle.eventlist.proofs.nearby.bounds_behind.Given as goal

abbrev pub invariant-loop-low : goal.invariant-loop-low
invariant-loop-low l = record {
  some : 1 ≤ l.step;
  few : l.step ≤ l.low;
  inside : l.low ≤ length l.events;
  passed : AllWithin (λ e. is_until l.key l.instant e ≡ true) l.events 0 l.low;
}

abbrev pub decreases-loop-low : goal.decreases-loop-low
decreases-loop-low l = length l.events - l.low
