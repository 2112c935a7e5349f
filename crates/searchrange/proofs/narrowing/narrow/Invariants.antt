use Rattle.std.proofs.Common.{◌≡◌, ◌∷◌, [], drop}
use Rattle.searchrange.specs.SearchRange.{narrowed_from}
use Rattle.searchrange.proofs.narrowing.narrow.Given as goal

abbrev pub invariant-loop-place : goal.invariant-loop-place
invariant-loop-place l =
    narrowed_from l.table l.comparisons l.place l.prefix.items (drop l.place l.table.key) l.range
    ≡ narrowed_from l.table l.comparisons 0 (l.table.number ∷ []) l.table.key l.initial.range
