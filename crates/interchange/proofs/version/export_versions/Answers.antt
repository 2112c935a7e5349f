use Rattle.std.specs.List.{flat_map}
use Rattle.interchange.specs.Version.{version_text}
use Rattle.interchange.proofs.VersionChunks.{some_taken, some_stopped}
use Rattle.interchange.proofs.version.export_versions.Goals as goal

pub loop-rest-preserved : goal.loop-rest-preserved
loop-rest-preserved g c = rw c.split_at.ensures.back (some_taken _ _ _ _ version_text c.loop-rest.rest.now c.min.result c.loop-rest.invariant
    (rw c.split_at.ensures.front at (c.in-Ok.ensures (flat_map version_text c.split_at.result.0.now) c.versions_text.ensures)))

pub returns-in-Err : goal.returns-in-Err
returns-in-Err g c = some_stopped _ _ _ _ version_text c.loop-rest.rest.now c.min.result c.loop-rest.invariant
    (rw c.split_at.ensures.front at (c.in-Err.ensures (flat_map version_text c.split_at.result.0.now) c.versions_text.ensures))
