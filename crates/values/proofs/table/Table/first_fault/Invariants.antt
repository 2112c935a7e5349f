use Rattle.std.proofs.Common.{◌≡◌, ◌+◌, drop}
use Rattle.values.specs.Fit.{first_fault}
use Rattle.values.proofs.table.Table.first_fault.Given as goal

abbrev pub invariant-loop-i : goal.invariant-loop-i
invariant-loop-i l = first_fault l.self (l.i + 1) (drop l.i l.columns) (drop l.i l.values) ≡ first_fault l.self 1 l.columns l.values
