use Rattle.std.proofs.Common.{◌≡◌, ◌≤◌, length, take, filter}
use Rattle.timesplit.proofs.StayCount.{stays}
use Rattle.timesplit.proofs.stay.stay_count.Given as goal

abbrev pub invariant-loop-place : goal.invariant-loop-place
invariant-loop-place l = record { counted : l.count ≡ length (filter (stays l.events l.instant) (take l.place l.events)); few : l.count ≤ l.place }
