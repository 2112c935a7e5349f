use Rattle.std.proofs.Common.{◌≡◌, ◌≤◌, false, length}
use Rattle.std.specs.List.{AllWithin}
use Rattle.eventlist.specs.Place.{is_until}
use Rattle.eventlist.proofs.nearby.bounds_before.Given as goal

abbrev pub invariant-loop-step : goal.invariant-loop-step
invariant-loop-step l = record {
  some : 1 ≤ l.step;
  inside : l.high ≤ length l.events;
  none : AllWithin (λ e. is_until l.key l.instant e ≡ false) l.events l.high (length l.events);
}

abbrev pub decreases-loop-step : goal.decreases-loop-step
decreases-loop-step l = l.high
