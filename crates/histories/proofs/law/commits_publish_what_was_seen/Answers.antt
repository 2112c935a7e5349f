use Rattle.histories.proofs.CommitLawPoints as points
use Rattle.histories.proofs.CommitLawRows as rows
use Rattle.histories.proofs.law.commits_publish_what_was_seen.Goals as goal

pub returns-clause-instant : goal.returns-clause-instant
returns-clause-instant c = rows.commits_at_its_instant

pub returns-clause-rows : goal.returns-clause-rows
returns-clause-rows c = rows.touched_rows_are_seen

pub returns-clause-other_rows : goal.returns-clause-other_rows
returns-clause-other_rows c = rows.untouched_rows_stay

pub returns-clause-points : goal.returns-clause-points
returns-clause-points c = points.touched_points_are_seen

pub returns-clause-other_points : goal.returns-clause-other_points
returns-clause-other_points c = points.untouched_points_stay

pub returns-clause-nothing : goal.returns-clause-nothing
returns-clause-nothing c = rows.others_commit_nothing
