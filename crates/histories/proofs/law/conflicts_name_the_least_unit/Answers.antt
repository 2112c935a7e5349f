use Rattle.histories.proofs.ConflictLeast as conflict
use Rattle.histories.proofs.law.conflicts_name_the_least_unit.Goals as goal

pub returns-clause-least : goal.returns-clause-least
returns-clause-least c = conflict.conflict_is_least

pub returns-clause-reported : goal.returns-clause-reported
returns-clause-reported c = conflict.conflict_is_reported

pub returns-clause-unique : goal.returns-clause-unique
returns-clause-unique c = conflict.conflict_is_unique
