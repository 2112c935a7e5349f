use Rattle.values.proofs.RowReads.{found_there, none_there, are_bytes}
use Rattle.values.proofs.row_encoding.read_row.Goals as goal

pub returns-clause-found : goal.returns-clause-found
returns-clause-found c = found_there c.args.bytes.now c.in_ok-row_from.field-0 (are_bytes c.args.bytes.now c.type_inv.bytes) c.in_ok-row_from.ensures

pub returns-clause-none : goal.returns-clause-none
returns-clause-none c = none_there c.args.bytes.now c.in_ok-row_from.field-0 c.in_ok-row_from.ensures
