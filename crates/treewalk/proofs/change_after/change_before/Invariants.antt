use Rattle.std.proofs.Common.{◌≡◌, ◌-◌, ◌≤◌, List}
use Rattle.values.specs.Event.{Event}
use Rattle.treenodes.specs.Map.{HoldsMap}
use Rattle.datanode.specs.NextChange.{event_after}
use Rattle.treewalk.proofs.change_after.change_before.Given as goal

abbrev pub invariant-loop-until : goal.invariant-loop-until
invariant-loop-until l = (l.after ≤ l.until) × ((m : List Event) → HoldsMap l.nodes m → event_after m l.until l.key ≡ event_after m l.after l.key)

-- proposed from the loop's first test
abbrev pub decreases-loop-until : goal.decreases-loop-until
decreases-loop-until l = l.bound - l.until
