use Rattle.std.proofs.Common.{◌≡◌, drop}
use Rattle.values.specs.Fit.{rows_fault}
use Rattle.values.proofs.table.Table.check_rows.Given as goal

abbrev pub invariant-loop-row : goal.invariant-loop-row
invariant-loop-row l = rows_fault l.self (drop l.row-index l.rows) ≡ rows_fault l.self l.rows
