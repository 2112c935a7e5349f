use Rattle.std.proofs.Common.{drop}
use Rattle.std.specs.List.{flat_map}
use Rattle.statement.proofs.WriterPrefixes.{Left}
use Rattle.statement.specs.Print.{row_line}
use Rattle.statement.proofs.print.print_row_lines.Given as goal

abbrev pub invariant-loop-row : goal.invariant-loop-row
invariant-loop-row g l = Left (g.W.Write.contents l.fn.writer) (g.W.Write.contents l.writer) (flat_map row_line l.rows) (flat_map row_line (drop l.row-index l.rows))
