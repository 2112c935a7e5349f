use Rattle.statement.proofs.WriterPrefixes.{Left}
use Rattle.dumping.specs.Row.{settings_text}
use Rattle.dumping.proofs.RowLoops.{settings_left}
use Rattle.dumping.proofs.row.print_settings.Given as goal

abbrev pub invariant-loop-i : goal.invariant-loop-i
invariant-loop-i g l =
    Left (g.W.Write.contents l.fn.writer) (g.W.Write.contents l.writer) (settings_text l.table l.key 1 l.values)
    (settings_left l.table l.key l.values l.i)
