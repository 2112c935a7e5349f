use Rattle.histories.proofs.HistorySnapshots as snapshots
use Rattle.histories.proofs.law.reads_depend_on_snapshot_and_own_writes.Goals as goal

pub returns-clause-listings : goal.returns-clause-listings
returns-clause-listings c = snapshots.reads_by_snapshot

pub returns-clause-replies : goal.returns-clause-replies
returns-clause-replies c = snapshots.selects_by_snapshot
