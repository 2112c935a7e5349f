use Rattle.values.proofs.RowFits.{fitting_rows_are_stored}
use Rattle.values.proofs.row_law.fitting_rows_have_bytes.Goals as goal

pub returns : goal.returns
returns c = fitting_rows_are_stored
