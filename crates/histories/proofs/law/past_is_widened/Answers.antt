use Rattle.histories.proofs.HistoryTables as tables
use Rattle.histories.proofs.HistoryWidened as widened
use Rattle.histories.proofs.law.past_is_widened.Goals as goal

pub returns-clause-tables : goal.returns-clause-tables
returns-clause-tables c = tables.tables_only_grow

pub returns-clause-listings : goal.returns-clause-listings
returns-clause-listings c = widened.past_is_widened

pub returns-clause-replies : goal.returns-clause-replies
returns-clause-replies c = widened.answered_widened
