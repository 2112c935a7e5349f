use Rattle.std.proofs.Common.{◌≡◌, take}
use Rattle.std.specs.List.{filter}
use Rattle.datanode.specs.Cut.{is_held_in}
use Rattle.datanode.proofs.cut.held_events.Given as goal

abbrev pub invariant-loop-place : goal.invariant-loop-place
invariant-loop-place l = l.found.items ≡ filter (is_held_in l.time l.events) (take l.place l.events)
