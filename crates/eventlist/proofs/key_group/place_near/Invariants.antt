use Rattle.std.proofs.Common.{◌≡◌, ◌≤◌, ◌-◌, true, length}
use Rattle.std.specs.List.{AllWithin}
use Rattle.eventlist.specs.Place.{is_until}
use Rattle.eventlist.proofs.key_group.place_near.Given as goal

abbrev pub invariant-loop-place : goal.invariant-loop-place
invariant-loop-place l = record {
  bound : l.place ≤ length l.events;
  passed : AllWithin (λ e. is_until l.key l.instant e ≡ true) l.events 0 l.place;
}

abbrev pub decreases-loop-place : goal.decreases-loop-place
decreases-loop-place l = length l.events - l.place
