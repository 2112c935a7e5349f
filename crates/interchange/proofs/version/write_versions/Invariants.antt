use Rattle.std.proofs.Common.{drop}
use Rattle.std.specs.List.{flat_map}
use Rattle.statement.proofs.WriterPrefixes.{Left}
use Rattle.interchange.specs.Version.{IsReady, held, version_text}
use Rattle.interchange.proofs.version.write_versions.Given as goal

abbrev pub invariant-loop-version : goal.invariant-loop-version
invariant-loop-version l = record {
  left : Left (held l.fn.writer) (held l.writer) (flat_map version_text l.shown) (flat_map version_text (drop l.version-index l.shown));
  ready : IsReady l.writer;
}
