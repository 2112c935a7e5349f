use Rattle.std.proofs.Common.{◌≡◌, [], drop}
use Rattle.statement.specs.Meaning.{fitting_rows}
use Rattle.statement.proofs.meaning.fitting_rows.Given as goal

abbrev pub invariant-loop-row : goal.invariant-loop-row
invariant-loop-row l = fitting_rows l.table l.columns l.fit.items (drop l.row-index l.rows) ≡ fitting_rows l.table l.columns [] l.rows
