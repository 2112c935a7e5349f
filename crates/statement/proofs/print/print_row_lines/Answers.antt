use Rattle.statement.specs.Print.{row_line}
use Rattle.statement.proofs.WriterPrefixes.{each_taken, each_stopped}
use Rattle.statement.proofs.print.print_row_lines.Goals as goal

pub returns-in_err-print_row : goal.returns-in_err-print_row
returns-in_err-print_row g c = each_stopped _ _ _ _ _ row_line c.args.rows.now c.loop-row.row-index c.row-item.result c.from_residual.ensures.1 c.loop-row-test.true c.row-item.is c.loop-row.invariant c.in_err-print_row.ensures

pub loop-row-preserved : goal.loop-row-preserved
loop-row-preserved g c = each_taken _ _ _ row_line c.args.rows.now c.loop-row.row-index c.row-item.result c.loop-row-test.true c.row-item.is c.loop-row.invariant c.in_ok-print_row.ensures
