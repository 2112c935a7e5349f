use Rattle.dump_steps.proofs.DumpLawHolds as holds
use Rattle.dump_steps.proofs.law.histories_are_dumped.Goals as goal

pub returns-clause-dumped : goal.returns-clause-dumped
returns-clause-dumped c =
    let logs = c.histories_are_of_changes.ensures in
    holds.histories_are_dumped logs.nets logs.over logs.changes logs.room c.periods_never_overlap.ensures.committed

pub returns-clause-alike : goal.returns-clause-alike
returns-clause-alike c =
    let logs = c.histories_are_of_changes.ensures in
    holds.dumps_answer_alike logs.nets logs.over logs.changes logs.room c.periods_never_overlap.ensures.committed c.idle_histories_answer_alike.ensures
