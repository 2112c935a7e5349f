use Rattle.std.proofs.Common.{drop}
use Rattle.std.specs.List.{flat_map}
use Rattle.statement.proofs.WriterPrefixes.{Left}
use Rattle.statement.specs.Print.{next_text}
use Rattle.statement.proofs.print.print_next_values.Given as goal

abbrev pub invariant-loop-value : goal.invariant-loop-value
invariant-loop-value g l = Left (g.W.Write.contents l.fn.writer) (g.W.Write.contents l.writer) (flat_map next_text l.values) (flat_map next_text (drop l.value-index l.values))
