use Rattle.std.proofs.Common.{◌≡◌, drop}
use Rattle.searchrange.specs.SearchRange.{narrowing_end}
use Rattle.searchrange.proofs.narrowing.narrowing_end.Given as goal

abbrev pub invariant-loop-place : goal.invariant-loop-place
invariant-loop-place l =
    narrowing_end l.table l.comparisons l.place (drop l.place l.table.key)
    ≡ narrowing_end l.table l.comparisons 0 l.table.key
