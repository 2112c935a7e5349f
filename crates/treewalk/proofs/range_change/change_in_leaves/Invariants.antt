use Rattle.std.proofs.Common.{◌≡◌, take}
use Rattle.std.specs.List.{flat_map}
use Rattle.treewalk.specs.Gather.{events_at}
use Rattle.treewalk.specs.RangeChange.{event_since_in}
use Rattle.treewalk.proofs.range_change.change_in_leaves.Given as goal

abbrev pub invariant-loop-number : goal.invariant-loop-number
invariant-loop-number l = l.latest ≡ event_since_in (flat_map (events_at l.nodes) (take l.number-index l.numbers)) l.start l.range
