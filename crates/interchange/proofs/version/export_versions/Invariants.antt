use Rattle.std.proofs.Common.{length}
use Rattle.std.specs.List.{flat_map}
use Rattle.statement.proofs.WriterPrefixes.{Left}
use Rattle.interchange.specs.Version.{version_text}
use Rattle.interchange.proofs.version.export_versions.Given as goal

abbrev pub invariant-loop-rest : goal.invariant-loop-rest
invariant-loop-rest g l = Left (g.W.Write.contents l.fn.writer) (g.W.Write.contents l.writer) (flat_map version_text l.shown) (flat_map version_text l.rest)

abbrev pub decreases-loop-rest : goal.decreases-loop-rest
decreases-loop-rest g l = length l.rest
