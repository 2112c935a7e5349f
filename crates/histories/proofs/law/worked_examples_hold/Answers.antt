use Rattle.std.proofs.Common.{refl}
use Rattle.histories.proofs.law.worked_examples_hold.Goals as goal

pub returns-clause-closed_start : goal.returns-clause-closed_start
returns-clause-closed_start c = refl

pub returns-clause-open_end : goal.returns-clause-open_end
returns-clause-open_end c = refl

pub returns-clause-degenerate_periods : goal.returns-clause-degenerate_periods
returns-clause-degenerate_periods c = refl

pub returns-clause-clock_runs_back : goal.returns-clause-clock_runs_back
returns-clause-clock_runs_back c = refl

pub returns-clause-first_committer : goal.returns-clause-first_committer
returns-clause-first_committer c = refl

pub returns-clause-write_skew : goal.returns-clause-write_skew
returns-clause-write_skew c = refl

pub returns-clause-concurrent_winners : goal.returns-clause-concurrent_winners
returns-clause-concurrent_winners c = refl

pub returns-clause-net_change : goal.returns-clause-net_change
returns-clause-net_change c = refl

pub returns-clause-no_change_no_conflict : goal.returns-clause-no_change_no_conflict
returns-clause-no_change_no_conflict c = refl

pub returns-clause-own_writes : goal.returns-clause-own_writes
returns-clause-own_writes c = refl

pub returns-clause-largest_instant : goal.returns-clause-largest_instant
returns-clause-largest_instant c = refl

pub returns-clause-refusals_in_order : goal.returns-clause-refusals_in_order
returns-clause-refusals_in_order c = refl

pub returns-clause-column_added : goal.returns-clause-column_added
returns-clause-column_added c = refl

pub returns-clause-written_wide : goal.returns-clause-written_wide
returns-clause-written_wide c = refl

pub returns-clause-additions_refused : goal.returns-clause-additions_refused
returns-clause-additions_refused c = refl
