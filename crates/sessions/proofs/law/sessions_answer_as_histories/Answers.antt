use Rattle.sessions.proofs.OfHistoryAlike as alike
use Rattle.sessions.proofs.OfHistoryEnded as ended
use Rattle.sessions.proofs.OfHistoryListed as listed
use Rattle.sessions.proofs.OfHistoryShown as shown
use Rattle.sessions.proofs.law.sessions_answer_as_histories.Goals as goal

pub returns-clause-writes : goal.returns-clause-writes
returns-clause-writes c = alike.writes_answer_alike

pub returns-clause-queries : goal.returns-clause-queries
returns-clause-queries c = shown.queries_answer_alike

pub returns-clause-after : goal.returns-clause-after
returns-clause-after c = alike.writes_leave_alike

pub returns-clause-gets : goal.returns-clause-gets
returns-clause-gets c = ended.gets_answer_alike

pub returns-clause-rollbacks : goal.returns-clause-rollbacks
returns-clause-rollbacks c = ended.rollbacks_answer_alike

pub returns-clause-listed : goal.returns-clause-listed
returns-clause-listed c = listed.gets_as_listed
