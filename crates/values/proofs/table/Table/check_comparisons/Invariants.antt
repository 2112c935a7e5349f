use Rattle.std.proofs.Common.{◌≡◌, drop}
use Rattle.values.specs.Fit.{comparisons_fault}
use Rattle.values.proofs.table.Table.check_comparisons.Given as goal

abbrev pub invariant-loop-comparison : goal.invariant-loop-comparison
invariant-loop-comparison l = comparisons_fault l.self (drop l.comparison-index l.comparisons) ≡ comparisons_fault l.self l.comparisons
