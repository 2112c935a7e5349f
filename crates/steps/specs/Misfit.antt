-- Why a step does not fit the schema.
use Rattle.std.specs.Prelude.{ℕ, Option, Some, None, if◌then◌else◌, nat_lt}
use Rattle.values.specs.declared.refusal.Refusal.{Refusal}
use Rattle.values.specs.declared.refusal.Refusal.TheVariants.{NoTable, NoSession}
use Rattle.values.specs.declared.table.Table.{Table}
use Rattle.values.specs.declared.key.Key.{Key}
use Rattle.values.specs.declared.query.Keys.{Keys}
use Rattle.values.specs.Tables.{Schema, table_at}
use Rattle.values.specs.Columns.{addition_fault}
use Rattle.values.specs.Faults.{bad_row}
use Rattle.values.specs.Fit.{key_fault, comparisons_fault, update_fault}
use Rattle.values.specs.Write.{rows_refusal, portion_refusal}
use Rattle.steps.specs.declared.step.Step.{Step}
use Rattle.steps.specs.declared.step.Step.TheVariants.{Begin, Insert, Update, Delete, UpdatePortion, DeletePortion, Select, Commit, Rollback, AddColumn, SplitKey, SplitTime, Migrate}

-- sessions are numbered from 0 to this
abbrev pub max_session : ℕ
max_session = 64

-- the refusal of a session that there is not
abbrev pub no_session : ℕ → Option Refusal
no_session i = if nat_lt max_session i then Some NoSession else None

-- why what a session asks of a table does not fit: its number, the table, then the table's reason
abbrev pub misfit_of : Schema → ℕ → ℕ → (Table → Option Refusal) → Option Refusal
misfit_of schema i number refusal =
    if nat_lt max_session i then Some NoSession
    else elim (table_at schema number) [ None ↦ Some NoTable | Some table ↦ refusal table ]

abbrev pub keys_refusal : Keys → Table → Option Refusal
keys_refusal keys table = bad_row (comparisons_fault table keys.comparisons)

-- no session names a key
abbrev pub key_misfit : Schema → Key → Option Refusal
key_misfit schema key = misfit_of schema 0 key.table (λ table. bad_row (key_fault table key.parts))

-- why a step does not fit the schema
abbrev pub misfit : Schema → Step → Option Refusal
misfit schema (Begin i) = no_session i
misfit schema (Insert i number rows) = misfit_of schema i number (λ table. rows_refusal table rows)
misfit schema (Update i keys sets) =
    misfit_of schema i keys.table (λ table. bad_row (update_fault table keys sets))
misfit schema (Delete i keys) = misfit_of schema i keys.table (keys_refusal keys)
misfit schema (UpdatePortion i keys cut sets) =
    misfit_of schema i keys.table (λ table. portion_refusal table cut (update_fault table keys sets))
misfit schema (DeletePortion i keys cut) =
    misfit_of schema i keys.table
    (λ table. portion_refusal table cut (comparisons_fault table keys.comparisons))
misfit schema (Select i form keys) = misfit_of schema i keys.table (keys_refusal keys)
misfit schema (Commit i reading) = no_session i
misfit schema (Rollback i) = no_session i
misfit schema (AddColumn i number name of) =
    misfit_of schema i number (λ table. bad_row (addition_fault name of table))
misfit schema (SplitKey key) = key_misfit schema key
misfit schema (SplitTime key instant) = key_misfit schema key
misfit schema Migrate = None
