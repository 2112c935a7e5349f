use Rattle.statement.proofs.WriterPrefixes.{Left}
use Rattle.dumping.specs.Row.{shown_row, values_end}
use Rattle.dumping.proofs.RowLoops.{values_left}
use Rattle.dumping.proofs.row.print_values.Given as goal

abbrev pub invariant-loop-i : goal.invariant-loop-i
invariant-loop-i g l =
    Left (g.W.Write.contents l.fn.writer) (g.W.Write.contents l.writer) (values_end (shown_row l.is_short l.table 1 l.values))
    (values_left l.is_short l.table l.values l.label l.i)
