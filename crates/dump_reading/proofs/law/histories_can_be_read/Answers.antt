use Rattle.dump_reading.proofs.ReadableHistoriesLeft as left
use Rattle.dump_reading.proofs.ReadableHistoriesLoaded as loaded
use Rattle.dump_reading.proofs.ReadableHistoriesLogs as logs
use Rattle.dump_reading.proofs.ReadableHistoriesSample as sample
use Rattle.dump_reading.proofs.ReadableHistoriesSchemas as schemas
use Rattle.dump_reading.proofs.ReadableHistoriesSteps as steps
use Rattle.dump_reading.proofs.ReadableHistoriesTables as tables
use Rattle.dump_reading.proofs.ReadableRunsLeft as runs
use Rattle.dump_reading.proofs.law.histories_can_be_read.Goals as goal

pub returns-clause-schemas : goal.returns-clause-schemas
returns-clause-schemas c = schemas.read_schemas_are_readable

pub returns-clause-sample : goal.returns-clause-sample
returns-clause-sample c = sample.sample_is_readable

pub returns-clause-asked : goal.returns-clause-asked
returns-clause-asked c = steps.asked_steps_are_readable

pub returns-clause-served : goal.returns-clause-served
returns-clause-served c = steps.served_steps_are_readable

pub returns-clause-loaded : goal.returns-clause-loaded
returns-clause-loaded c = loaded.loaded_rows_are_readable

pub returns-clause-replayed : goal.returns-clause-replayed
returns-clause-replayed c = left.replays_leave_readable

pub returns-clause-scripts : goal.returns-clause-scripts
returns-clause-scripts c = left.scripts_leave_readable

pub returns-clause-runs : goal.returns-clause-runs
returns-clause-runs c = runs.served_runs_leave_readable

pub returns-clause-kept : goal.returns-clause-kept
returns-clause-kept c = runs.served_runs_keep_tables

pub returns-clause-tables : goal.returns-clause-tables
returns-clause-tables c = tables.grown_tables_are_readable

pub returns-clause-logs : goal.returns-clause-logs
returns-clause-logs c = logs.logs_are_readable
