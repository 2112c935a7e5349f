use Rattle.histories.proofs.DueRuns as ran
use Rattle.histories.proofs.law.answered_replies_are_due.Goals as goal

pub returns : goal.returns
returns c = ran.due_all
