-- The step that a statement asks for, or why it does not fit the schema.
use Rattle.std.specs.Prelude.{ℕ, ◌+◌, List, [], ◌∷◌, ◌++◌, ◌==◌, ◌&&◌, ◌||◌, not, nat_lt, Bool, true, Option, Some, None, Result, Ok, Err, length, slice_get, position, unwrap_or, if◌then◌else◌}
use Rattle.std.specs.List.{list_any}
use Rattle.values.specs.declared.value.Value.{Value}
use Rattle.values.specs.declared.value.Value.TheVariants.{Null}
use Rattle.values.specs.declared.table.Column.{Column}
use Rattle.values.specs.declared.table.ColumnType.{ColumnType}
use Rattle.values.specs.declared.table.Table.{Table}
use Rattle.values.specs.declared.query.Keys.{Keys}
use Rattle.values.specs.declared.query.Set.{Set}
use Rattle.values.specs.Tables.{Schema}
use Rattle.values.specs.declared.refusal.Refusal.{Refusal}
use Rattle.values.specs.declared.refusal.Refusal.TheVariants.{NoSession, NoTable, BadRow}
use Rattle.values.specs.Log.{Row}
use Rattle.values.specs.Tables.{table_at}
use Rattle.values.specs.Fit.{row_fault}
use Rattle.statement.specs.declared.portion.Portion.{Portion}
use Rattle.statement.specs.declared.statement.Statement.{Statement}
use Rattle.statement.specs.declared.statement.Statement.TheVariants.{Begin, Insert, Update, Delete, Select, Commit, Rollback}
use Rattle.steps.specs.declared.step.Step.{Step}
use Rattle.steps.specs.declared.step.Step.TheVariants.{Begin as Begins, Insert as Inserts, Update as Updates, Delete as Deletes, UpdatePortion as UpdatesPortion, DeletePortion as DeletesPortion, Select as Selects, Commit as Commits, Rollback as RollsBack, AddColumn as AddsColumn}
use Rattle.steps.specs.Misfit.{max_session, misfit}
use Rattle.tokens.specs.Token.{◌>>=◌}

-- each name of a column list is a column's, and none is repeated
abbrev pub is_column_list : List ℕ → Bool
is_column_list [] = true
is_column_list (column ∷ columns) =
    not (column == 0) && not (list_any (λ other. other == column) columns) && is_column_list columns

-- there is no column list, or a good one
abbrev pub is_good_list : Option (List ℕ) → Bool
is_good_list None = true
is_good_list (Some columns) = is_column_list columns

-- the place of a column in a column list
unfoldable pub place_of : List ℕ → ℕ → Option ℕ
place_of columns number = position (λ column. column == number) columns

-- the value that a row gives a column, by the columns of its values; NULL where it gives none
abbrev pub value_of : List ℕ → Row → ℕ → Value
value_of columns row number =
    elim (place_of columns number) [ None ↦ Null | Some i ↦ unwrap_or (slice_get row i) Null ]

-- the values for the columns of a table, numbered from here on, after those before
abbrev pub row_values_from : List ℕ → Row → Row → ℕ → List Column → Row
row_values_from columns row front number [] = front
row_values_from columns row front number (_ ∷ rest) =
    row_values_from columns row (front ++ value_of columns row number ∷ []) (number + 1) rest

-- a row's values in the table's order
abbrev pub row_values : Table → List ℕ → Row → Row
row_values table columns row = row_values_from columns row [] 1 table.columns

-- the row, or the first of its columns that does not fit; the width comes first
abbrev pub row_in : Table → Row → Result Row Refusal
row_in table row = elim (row_fault table row) [ Some column ↦ Err (BadRow column) | None ↦ Ok row ]

-- the row in the table's order, which is its own where there is no column list
unfoldable pub fitting_row : Table → Option (List ℕ) → Row → Result Row Refusal
fitting_row table None row = row_in table row
fitting_row table (Some columns) row =
    if length columns == length row then row_in table (row_values table columns row)
    else Err (BadRow 0)

-- the same of rows in turn, after those before
abbrev pub fitting_rows : Table → Option (List ℕ) → List Row → List Row → Result (List Row) Refusal
fitting_rows table columns front [] = Ok front
fitting_rows table columns front (row ∷ rows) = elim (fitting_row table columns row) [
  | Err refusal ↦ Err refusal
  | Ok fits ↦ fitting_rows table columns (front ++ fits ∷ []) rows
]

module _ (schema : Schema) where
  -- the step, if it fits the schema
  abbrev pub fitting_step : Step → Result Step Refusal
  fitting_step step = elim (misfit schema step) [ Some refusal ↦ Err refusal | None ↦ Ok step ]

  -- an INSERT: its table, then its column list, then its rows, then the step
  unfoldable pub insert_step : ℕ → ℕ → Option (List ℕ) → List Row → Result Step Refusal
  insert_step session number columns rows = elim (table_at schema number) [
    | None ↦ Err NoTable
    | Some table ↦
        if is_good_list columns
        then (fitting_rows table columns [] rows >>= λ fit.
        fitting_step (Inserts session number fit))
        else Err (BadRow 0)
  ]

  -- a step on a portion: its table, then whether the table has its period, then the step
  unfoldable pub portion_step : ℕ → Bool → Step → Result Step Refusal
  portion_step number of_period step = elim (table_at schema number) [
    | None ↦ Err NoTable
    | Some _ ↦ if of_period then fitting_step step else Err (BadRow 0)
  ]

  -- an UPDATE of a portion, or of rows as they are
  abbrev pub update_step : ℕ → Keys → Option Portion → List Set → Result Step Refusal
  update_step session keys None sets = fitting_step (Updates session keys sets)
  update_step session keys (Some portion) sets =
      portion_step keys.table portion.of_period (UpdatesPortion session keys portion.span sets)

  -- the same of a DELETE
  abbrev pub delete_step : ℕ → Keys → Option Portion → Result Step Refusal
  delete_step session keys None = fitting_step (Deletes session keys)
  delete_step session keys (Some portion) =
      portion_step keys.table portion.of_period (DeletesPortion session keys portion.span)

  -- the step of a session that there is
  unfoldable pub session_step : ℕ → ℕ → Statement → Result Step Refusal
  session_step reading session Begin = fitting_step (Begins session)
  session_step reading session (Insert number columns rows) =
      insert_step session number columns rows
  session_step reading session (Update keys portion sets) = update_step session keys portion sets
  session_step reading session (Delete keys portion) = delete_step session keys portion
  session_step reading session (Select form keys) = fitting_step (Selects session form keys)
  session_step reading session Commit = fitting_step (Commits session reading)
  session_step reading session Rollback = fitting_step (RollsBack session)

  -- sessions are numbered from 1 to 64
  abbrev pub of_session : ℕ → Result Step Refusal → Result Step Refusal
  of_session session step =
      if (session == 0) || nat_lt max_session session then Err NoSession else step

  unfoldable pub step_of : ℕ → ℕ → Statement → Result Step Refusal
  step_of reading session statement = of_session session (session_step reading session statement)

  -- the step that adds a column to a table
  unfoldable pub column_step : ℕ → ℕ → List ℕ → ColumnType → Result Step Refusal
  column_step session number name of =
      of_session session (fitting_step (AddsColumn session number name of))
