use Rattle.sessions.proofs.StoreOfHistoryAlike as alike
use Rattle.sessions.proofs.law.stores_answer_as_histories.Goals as goal

pub returns-clause-begins : goal.returns-clause-begins
returns-clause-begins c = alike.begins_answer_alike

pub returns-clause-commits : goal.returns-clause-commits
returns-clause-commits c = alike.commits_answer_alike

pub returns-clause-splits : goal.returns-clause-splits
returns-clause-splits c = alike.splits_answer_alike

pub returns-clause-installs : goal.returns-clause-installs
returns-clause-installs c = alike.installs_answer_alike

pub returns-clause-refused : goal.returns-clause-refused
returns-clause-refused c = alike.refused_alike

pub returns-clause-others : goal.returns-clause-others
returns-clause-others c = alike.others_leave_alike

pub returns-clause-own : goal.returns-clause-own
returns-clause-own c = alike.own_steps_stay
