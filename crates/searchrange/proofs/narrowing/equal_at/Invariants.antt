use Rattle.std.proofs.Common.{◌≡◌, drop}
use Rattle.searchrange.specs.SearchRange.{equal_at}
use Rattle.searchrange.proofs.narrowing.equal_at.Given as goal

abbrev pub invariant-loop-comparison : goal.invariant-loop-comparison
invariant-loop-comparison l = equal_at l.table l.place (drop l.comparison-index l.comparisons) ≡ equal_at l.table l.place l.comparisons
