use Rattle.std.proofs.Common.{◌≡◌, ◌+◌, drop}
use Rattle.statement.specs.Meaning.{row_values_from, row_values}
use Rattle.statement.proofs.meaning.row_values.Given as goal

abbrev pub invariant-loop-i : goal.invariant-loop-i
invariant-loop-i l = row_values_from l.columns l.values l.row.items (l.i + 1) (drop l.i l.table.columns) ≡ row_values l.table l.columns l.values
