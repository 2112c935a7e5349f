use Rattle.std.proofs.Common.{drop}
use Rattle.std.specs.List.{flat_map}
use Rattle.statement.proofs.WriterPrefixes.{Left}
use Rattle.statement.specs.Print.{shown_line}
use Rattle.statement.proofs.print.print_shown_lines.Given as goal

abbrev pub invariant-loop-one : goal.invariant-loop-one
invariant-loop-one g l = Left (g.W.Write.contents l.fn.writer) (g.W.Write.contents l.writer) (flat_map shown_line l.shown) (flat_map shown_line (drop l.one-index l.shown))
