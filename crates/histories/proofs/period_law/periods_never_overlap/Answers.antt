use Rattle.histories.proofs.PeriodLawApart as apart
use Rattle.histories.proofs.period_law.periods_never_overlap.Goals as goal

pub returns-clause-committed : goal.returns-clause-committed
returns-clause-committed c = apart.never_overlap

pub returns-clause-own : goal.returns-clause-own
returns-clause-own c = apart.own_never_overlap
