use Rattle.std.proofs.Common.{drop}
use Rattle.std.specs.List.{flat_map}
use Rattle.statement.proofs.WriterPrefixes.{Left}
use Rattle.dumping.specs.Column.{column_line}
use Rattle.dumping.proofs.column.print_columns.Given as goal

abbrev pub invariant-loop-column : goal.invariant-loop-column
invariant-loop-column g l =
    Left (g.W.Write.contents l.fn.writer) (g.W.Write.contents l.writer) (flat_map (column_line l.table) l.column-items)
    (flat_map (column_line l.table) (drop l.column-index l.column-items))
