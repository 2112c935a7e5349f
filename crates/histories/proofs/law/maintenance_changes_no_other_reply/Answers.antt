use Rattle.histories.proofs.Maintenance as maintenance
use Rattle.histories.proofs.law.maintenance_changes_no_other_reply.Goals as goal

pub returns-clause-replies : goal.returns-clause-replies
returns-clause-replies c = maintenance.maintenance_changes_no_reply

pub returns-clause-log : goal.returns-clause-log
returns-clause-log c = maintenance.maintenance_commits_nothing
