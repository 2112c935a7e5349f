use Rattle.histories.proofs.HistoryGrowth as growth
use Rattle.histories.proofs.HistoryPast as past
use Rattle.histories.proofs.law.past_stays.Goals as goal

pub returns-clause-stays : goal.returns-clause-stays
returns-clause-stays c = growth.past_stays

pub returns-clause-listings : goal.returns-clause-listings
returns-clause-listings c = past.read_alike

pub returns-clause-replies : goal.returns-clause-replies
returns-clause-replies c = past.told_alike
