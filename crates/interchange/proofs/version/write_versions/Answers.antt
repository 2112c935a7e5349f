use Rattle.statement.proofs.WriterPrefixes.{each_taken}
use Rattle.interchange.specs.Version.{version_text}
use Rattle.interchange.proofs.version.write_versions.Goals as goal

pub loop-version-preserved : goal.loop-version-preserved
loop-version-preserved c = record {
  left = each_taken _ _ _ version_text c.args.shown.now c.loop-version.version-index c.version-item.result c.loop-version-test.true c.version-item.is c.loop-version.invariant.left c.in_ok-write_version.ensures.ok;
  ready = c.in_ok-write_version.ensures.ready;
}
