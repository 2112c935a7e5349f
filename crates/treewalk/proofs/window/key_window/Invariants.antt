use Rattle.std.proofs.Common.{◌≡◌, ◌-◌, ◌≤◌, List, filter}
use Rattle.values.specs.Event.{Event}
use Rattle.treenodes.specs.Map.{HoldsMap}
use Rattle.treewalk.proofs.WindowJoined.{is_so_far}
use Rattle.treewalk.proofs.window.key_window.Given as goal

abbrev pub invariant-loop-until : goal.invariant-loop-until
invariant-loop-until g l = record {
  start : l.first ≤ l.until;
  are : (m : List Event) → HoldsMap l.nodes m → l.found.items ≡ filter (is_so_far m l.key l.first l.last l.until) m;
}

abbrev pub decreases-loop-until : goal.decreases-loop-until
decreases-loop-until g l = l.last - l.until
