use Rattle.std.proofs.Common.{true}
use Rattle.statement.proofs.WriterPrefixes.{stopped}
use Rattle.dumping.specs.Row.{insert_line}
use Rattle.dumping.proofs.row.print_short.Goals as goal

pub returns-in_err-print_insert : goal.returns-in_err-print_insert
returns-in_err-print_insert g c = stopped _ _ _ _ (insert_line true c.args.table.now c.args.values.now) _ c.from_residual.ensures.1 c.in_err-print_insert.ensures
