use Rattle.histories.proofs.PeriodLawPoints as points
use Rattle.histories.proofs.period_law.portions_change_what_is_seen.Goals as goal

pub returns-clause-points : goal.returns-clause-points
returns-clause-points c = points.portions_change_points

pub returns-clause-others : goal.returns-clause-others
returns-clause-others c = points.other_points_stay

pub returns-clause-sessions : goal.returns-clause-sessions
returns-clause-sessions c = points.others_see_the_same

pub returns-clause-counts : goal.returns-clause-counts
returns-clause-counts c = points.portions_count_taken
