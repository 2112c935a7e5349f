use Rattle.std.proofs.Common.{◌≡◌, ◌++◌, drop, length, map}
use Rattle.dumping.proofs.history.widths_of.Given as goal

abbrev pub invariant-loop-table : goal.invariant-loop-table
invariant-loop-table l = l.widths.items ++ map (λ table. length table.columns) (drop l.table-index l.tables) ≡ map (λ table. length table.columns) l.tables
