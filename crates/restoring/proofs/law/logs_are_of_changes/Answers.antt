use Rattle.restoring.proofs.FromChanges as log
use Rattle.restoring.proofs.law.logs_are_of_changes.Goals as goal

pub returns : goal.returns
returns c = log.log_is_of_changes
