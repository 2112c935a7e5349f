use Rattle.migrator.proofs.RoundBegun.{part_alone}
use Rattle.migrator.proofs.run.pack_begun.Goals as goal

pub returns-clause-part : goal.returns-clause-part
returns-clause-part g c = part_alone _
