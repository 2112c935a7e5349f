use Rattle.std.proofs.Common.{◌≡◌, ◌-◌, List}
use Rattle.values.specs.Event.{Event}
use Rattle.treenodes.specs.Map.{HoldsMap}
use Rattle.datanode.specs.NextChange.{event_after}
use Rattle.treewalk.proofs.change_after.change_by_leaves.Given as goal

abbrev pub invariant-loop-until : goal.invariant-loop-until
invariant-loop-until l = (m : List Event) → HoldsMap l.nodes m → event_after m l.until l.key ≡ event_after m l.after l.key

-- proposed from the loop's first test
abbrev pub decreases-loop-until : goal.decreases-loop-until
decreases-loop-until l = 999999999999999999 - l.until
