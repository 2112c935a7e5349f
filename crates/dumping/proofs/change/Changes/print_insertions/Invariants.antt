use Rattle.std.proofs.Common.{drop}
use Rattle.std.specs.List.{flat_map}
use Rattle.statement.proofs.WriterPrefixes.{Left}
use Rattle.dumping.specs.Change.{insertion_text}
use Rattle.dumping.proofs.change.Changes.print_insertions.Given as goal

abbrev pub invariant-loop-place : goal.invariant-loop-place
invariant-loop-place g l =
    Left (g.W.Write.contents l.fn.writer) (g.W.Write.contents l.writer) (flat_map (insertion_text l.self.tables.now l.self.events.now) l.places)
    (flat_map (insertion_text l.self.tables.now l.self.events.now) (drop l.place-index l.places))
