use Rattle.std.proofs.Common.{◌-◌, ◌≤◌, length}
use Rattle.indexnode.specs.Search.{IsAboveAt}
use Rattle.indexnode.proofs.search.place_above.Given as goal

abbrev pub invariant-loop-high : goal.invariant-loop-high
invariant-loop-high g l = record {
  ordered : l.low ≤ l.high;
  within : l.high ≤ length l.references;
  above : IsAboveAt l.key l.references l.high;
}

abbrev pub decreases-loop-high : goal.decreases-loop-high
decreases-loop-high g l = l.high - l.low
