use Rattle.statement.proofs.WriterPrefixes.{each_taken, each_stopped}
use Rattle.dumping.specs.History.{last_columns_text}
use Rattle.dumping.proofs.history.print_last_columns.Goals as goal

pub returns-in_err-print_columns : goal.returns-in_err-print_columns
returns-in_err-print_columns g c =
    each_stopped _ _ _ _ _ (last_columns_text c.args.widths.now) c.args.tables.now c.loop-table.table-index c.table-item.result
    c.from_residual.ensures.1 c.loop-table-test.true c.table-item.is c.loop-table.invariant (rw (c.width_of.ensures, c.items.ensures) at c.in_err-print_columns.ensures)

pub loop-table-preserved : goal.loop-table-preserved
loop-table-preserved g c =
    each_taken _ _ _ (last_columns_text c.args.widths.now) c.args.tables.now c.loop-table.table-index c.table-item.result
    c.loop-table-test.true c.table-item.is c.loop-table.invariant (rw (c.width_of.ensures, c.items.ensures) at c.in_ok-print_columns.ensures)
