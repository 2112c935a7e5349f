use Rattle.std.proofs.Common.{drop}
use Rattle.std.specs.List.{flat_map}
use Rattle.statement.proofs.WriterPrefixes.{Left}
use Rattle.statement.specs.Print.{quoted_byte}
use Rattle.statement.proofs.print.print_bytes.Given as goal

abbrev pub invariant-loop-byte : goal.invariant-loop-byte
invariant-loop-byte g l = Left (g.W.Write.contents l.fn.writer) (g.W.Write.contents l.writer) (flat_map quoted_byte l.text) (flat_map quoted_byte (drop l.byte-index l.text))
