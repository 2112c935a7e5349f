use Rattle.std.proofs.Common.{drop, length}
use Rattle.statement.specs.Print.{line}
use Rattle.statement.proofs.WriterPrefixes.{Left}
use Rattle.dump_steps.specs.Dump.{comparisons_of, keys_of}
use Rattle.dumping.specs.DumpText.{where_text}
use Rattle.dumping.proofs.DeletionPairs.{pairs_behind}
use Rattle.dumping.proofs.deletion.print_where.Given as goal

abbrev pub invariant-loop-column : goal.invariant-loop-column
invariant-loop-column g l = record {
  can_next : (goal.iterator-loop-column g).can_next l.column-iterator;
  finite : (goal.iterator-loop-column g).is_finite l.column-iterator;
  left : Left (g.W.Write.contents l.fn.writer) (g.W.Write.contents l.writer) (line (where_text l.table (keys_of l.table l.key).comparisons))
      (line (pairs_behind l.label l.table (comparisons_of (drop (length l.yielded) l.table.key) (drop (length l.yielded) l.key.parts))));
}
