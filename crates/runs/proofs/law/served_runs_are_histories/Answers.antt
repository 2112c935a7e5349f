use Rattle.runs.proofs.OneHistoryFound as runs
use Rattle.runs.proofs.law.served_runs_are_histories.Goals as goal

pub returns : goal.returns
returns c = record { histories = runs.served_runs_are_histories }
