use Rattle.std.proofs.Common.{drop}
use Rattle.std.specs.List.{flat_map}
use Rattle.statement.proofs.WriterPrefixes.{Left}
use Rattle.dumping.specs.History.{last_columns_text}
use Rattle.dumping.proofs.history.print_last_columns.Given as goal

abbrev pub invariant-loop-table : goal.invariant-loop-table
invariant-loop-table g l =
    Left (g.W.Write.contents l.fn.writer) (g.W.Write.contents l.writer) (flat_map (last_columns_text l.widths) l.tables)
    (flat_map (last_columns_text l.widths) (drop l.table-index l.tables))
