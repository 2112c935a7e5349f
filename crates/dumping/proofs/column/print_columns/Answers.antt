use Rattle.statement.proofs.WriterPrefixes.{each_taken, each_stopped}
use Rattle.dumping.specs.Column.{column_line}
use Rattle.dumping.proofs.column.print_columns.Goals as goal

pub returns-in_err-print_column : goal.returns-in_err-print_column
returns-in_err-print_column g c =
    rw (← c.columns_between-column-items.ensures) (each_stopped _ _ _ _ _ (column_line c.args.table.now) c.columns_between-column-items.result.now c.loop-column.column-index c.column-item.result
    c.from_residual.ensures.1 c.loop-column-test.true c.column-item.is c.loop-column.invariant c.in_err-print_column.ensures)

pub loop-column-preserved : goal.loop-column-preserved
loop-column-preserved g c =
    each_taken _ _ _ (column_line c.args.table.now) c.columns_between-column-items.result.now c.loop-column.column-index c.column-item.result
    c.loop-column-test.true c.column-item.is c.loop-column.invariant c.in_ok-print_column.ensures
