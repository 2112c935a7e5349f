use Rattle.histories.proofs.HistoryGrowth as growth
use Rattle.histories.proofs.law.log_only_grows.Goals as goal

pub returns-clause-rises : goal.returns-clause-rises
returns-clause-rises c = growth.log_rises

pub returns-clause-adds : goal.returns-clause-adds
returns-clause-adds c = growth.later_steps_add
