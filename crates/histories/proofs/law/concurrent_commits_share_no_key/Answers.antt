use Rattle.histories.proofs.Winners as winners
use Rattle.histories.proofs.law.concurrent_commits_share_no_key.Goals as goal

pub returns-clause-apart : goal.returns-clause-apart
returns-clause-apart c = winners.first_committer_wins

pub returns-clause-whole : goal.returns-clause-whole
returns-clause-whole c = winners.log_is_of_winners
