use Rattle.std.proofs.Common.{List}
use Rattle.values.specs.Event.{Event}
use Rattle.treenodes.specs.Map.{HoldsMap}
use Rattle.treewalk.proofs.LastChangeShown.{AreUntil}
use Rattle.treewalk.proofs.last_change.changed_by.Given as goal

abbrev pub invariant-loop-instant : goal.invariant-loop-instant
invariant-loop-instant l = (m : List Event) → HoldsMap l.nodes m → AreUntil m l.key l.instant

abbrev pub decreases-loop-instant : goal.decreases-loop-instant
decreases-loop-instant l = l.instant
