use Rattle.std.proofs.Common.{◌≡◌, drop}
use Rattle.searchrange.specs.SearchRange.{narrowed_at}
use Rattle.searchrange.proofs.narrowing.narrowed_at.Given as goal

abbrev pub invariant-loop-comparison : goal.invariant-loop-comparison
invariant-loop-comparison l =
    narrowed_at l.table l.place l.prefix (drop l.comparison-index l.comparisons) l.range ≡ narrowed_at l.table l.place l.prefix l.comparisons l.initial.range
