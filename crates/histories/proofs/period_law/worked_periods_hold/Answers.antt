use Rattle.std.proofs.Common.{refl}
use Rattle.histories.proofs.WorkedTables as tables
use Rattle.histories.proofs.period_law.worked_periods_hold.Goals as goal

pub returns-clause-good_tables : goal.returns-clause-good_tables
returns-clause-good_tables c = tables.both_good

pub returns-clause-overlaps_refused : goal.returns-clause-overlaps_refused
returns-clause-overlaps_refused c = refl

pub returns-clause-portion_updated : goal.returns-clause-portion_updated
returns-clause-portion_updated c = refl

pub returns-clause-portion_deleted : goal.returns-clause-portion_deleted
returns-clause-portion_deleted c = refl

pub returns-clause-entity_conflict : goal.returns-clause-entity_conflict
returns-clause-entity_conflict c = refl

pub returns-clause-least_conflict : goal.returns-clause-least_conflict
returns-clause-least_conflict c = refl

pub returns-clause-entities_apart : goal.returns-clause-entities_apart
returns-clause-entities_apart c = refl

pub returns-clause-commits_joined : goal.returns-clause-commits_joined
returns-clause-commits_joined c = refl

pub returns-clause-own_rows_count : goal.returns-clause-own_rows_count
returns-clause-own_rows_count c = refl

pub returns-clause-period_columns_stay : goal.returns-clause-period_columns_stay
returns-clause-period_columns_stay c = refl

pub returns-clause-portions_widen : goal.returns-clause-portions_widen
returns-clause-portions_widen c = refl
