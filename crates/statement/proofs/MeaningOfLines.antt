-- What a line of the grammar says is no fault of syntax.
use Rattle.std.proofs.Common.{◌≡◌, ℕ, Bool, true, false, List, [], ◌∷◌, ◌++◌, Ok, Err, Some, None, subst}
use Rattle.std.specs.Prelude.{length, not, Option, Result, if◌then◌else◌, ◌||◌, ◌==◌, nat_lt}
use Rattle.values.specs.declared.table.Table.{Table}
use Rattle.values.specs.Tables.{Schema, table_at}
use Rattle.values.specs.declared.table.ColumnType.{ColumnType}
use Rattle.values.specs.Columns.{addition_fault}
use Rattle.values.specs.Faults.{bad_row}
use Rattle.values.specs.Fit.{row_fault, rows_fault, comparisons_fault, update_fault, key_fault, first_of}
use Rattle.values.specs.Period.{is_span}
use Rattle.values.specs.Write.{has_bad_span, span_refusal, portion_refusal}
use Rattle.values.specs.declared.period.Period.{Period}
use Rattle.values.specs.declared.period.Span.{Span}
use Rattle.values.specs.Log.{Row}
use Rattle.values.specs.declared.refusal.Refusal.{Refusal}
use Rattle.values.specs.declared.refusal.Refusal.TheVariants.{Syntax, NoTable, BadRow, NoSession}
use Rattle.values.specs.declared.query.Keys.{Keys}
use Rattle.values.specs.declared.query.Set.{Set}
use Rattle.steps.specs.declared.step.Step.{Step}
use Rattle.steps.specs.declared.step.Step.TheVariants.{Begin as Begins, Insert as Inserts, Update as Updates, Delete as Deletes, UpdatePortion as UpdatesPortion, DeletePortion as DeletesPortion, Select as Selects, Commit as Commits, Rollback as RollsBack, SplitKey as SplitsKey, SplitTime as SplitsTime, AddColumn as AddsColumn}
use Rattle.steps.specs.Misfit.{max_session, misfit, misfit_of, no_session, keys_refusal}
use Rattle.tokens.specs.Token.{◌>>=◌}
use Rattle.statement.specs.declared.line.Line.{Line}
use Rattle.statement.specs.declared.line.Written.{Written}
use Rattle.statement.specs.declared.line.Written.TheVariants.{Clock, SplitKey, SplitTime, Migrate, Session, AddColumn}
use Rattle.statement.specs.declared.portion.Portion.{Portion}
use Rattle.statement.specs.declared.statement.Statement.{Statement}
use Rattle.statement.specs.declared.statement.Statement.TheVariants.{Begin, Insert, Update, Delete, Select, Commit, Rollback}
use Rattle.statement.specs.Meaning.{is_good_list, row_values, row_in, fitting_row, fitting_rows, fitting_step, insert_step, portion_step, update_step, delete_step, session_step, step_of, column_step}
use Rattle.statement.specs.Line.{meaning_of}

-- no fault of syntax
abbrev no_syntax : Refusal → Type 0
no_syntax (Syntax n) = ⊥
no_syntax _ = Unit {0}

abbrev Fits : {A : Type 0} → Result A Refusal → Type 0
Fits (Ok x) = Unit {0}
Fits (Err r) = no_syntax r

record Says {A : Type 0} (r : Result A Refusal) : Type 0 where
  it : Fits r

then_says : {A B : Type 0} (r : Result A Refusal) (f : A → Result B Refusal) → Says r → ((x : A) → Says (f x)) → Says (r >>= f)
then_says (Ok x) f s go = go x
then_says (Err r) f s go = record { it = s.it }

abbrev Misses : Option Refusal → Type 0
Misses None = Unit {0}
Misses (Some r) = no_syntax r

column_misses : (fault : Option ℕ) → Misses (bad_row fault)
column_misses None = tt
column_misses (Some n) = tt

session_misses : (i : ℕ) → Misses (no_session i)
session_misses i = by_test (nat_lt max_session i)
  where
    by_test : (t : Bool) → Misses (if t then Some NoSession else None)
    by_test true = tt
    by_test false = tt

keys_miss : (keys : Keys) (table : Table) → Misses (keys_refusal keys table)
keys_miss keys table = column_misses (comparisons_fault table keys.comparisons)

span_misses : (is_bad : Bool) → Misses (span_refusal is_bad)
span_misses true = tt
span_misses false = tt

first_misses : (fault : Option ℕ) (other : Option Refusal) → Misses other → Misses (first_of (bad_row fault) other)
first_misses None other m = m
first_misses (Some n) other m = tt

portion_misses : (cut : Span) (fault : Option ℕ) (table : Table) → Misses (portion_refusal table cut fault)
portion_misses cut fault table = by_period table.period
  where
    by_period : (o : Option Period) → Misses (elim o [ None ↦ Some (BadRow 0) | Some p ↦ first_of (bad_row fault) (span_refusal (not (is_span cut))) ])
    by_period None = tt
    by_period (Some p) = first_misses fault (span_refusal (not (is_span cut))) (span_misses (not (is_span cut)))

module _ (schema : Schema) where
  table_misses : (i number : ℕ) (refusal : Table → Option Refusal) → ((table : Table) → Misses (refusal table)) → Misses (misfit_of schema i number refusal)
  table_misses i number refusal m = by_test (nat_lt max_session i) (table_at schema number)
    where
      by_test : (t : Bool) (o : Option Table) → Misses (if t then Some NoSession else elim o [ None ↦ Some NoTable | Some table ↦ refusal table ])
      by_test true o = tt
      by_test false None = tt
      by_test false (Some table) = m table

  step_says : (step : Step) → Misses (misfit schema step) → Says (fitting_step schema step)
  step_says step m = by_misfit (misfit schema step) m
    where
      by_misfit : (o : Option Refusal) → Misses o → Says {A = Step} (elim o [ Some refusal ↦ Err refusal | None ↦ Ok step ])
      by_misfit None m = record { it = tt }
      by_misfit (Some r) m = record { it = m }

  row_says : (table : Table) (row : Row) → Says (row_in table row)
  row_says table row = by_fault (row_fault table row)
    where
      by_fault : (o : Option ℕ) → Says {A = Row} (elim o [ Some column ↦ Err (BadRow column) | None ↦ Ok row ])
      by_fault None = record { it = tt }
      by_fault (Some n) = record { it = tt }

  fitting_says : (table : Table) (columns : Option (List ℕ)) (row : Row) → Says (fitting_row table columns row)
  unfolding fitting_row
  fitting_says table None row = row_says table row
  fitting_says table (Some columns) row = by_test (length columns == length row)
    where
      by_test : (t : Bool) → Says {A = Row} (if t then row_in table (row_values table columns row) else Err (BadRow 0))
      by_test true = row_says table (row_values table columns row)
      by_test false = record { it = tt }

  rows_say : (table : Table) (columns : Option (List ℕ)) (front rows : List Row) → Says (fitting_rows table columns front rows)
  rows_say table columns front [] = record { it = tt }
  rows_say table columns front (row ∷ rows) = by_row (fitting_row table columns row) (fitting_says table columns row) (λ fits. rows_say table columns (front ++ fits ∷ []) rows)
    where
      by_row : (r : Result Row Refusal) → Says r → ((fits : Row) → Says (fitting_rows table columns (front ++ fits ∷ []) rows))
          → Says {A = List Row} (elim r [ Err refusal ↦ Err refusal | Ok fits ↦ fitting_rows table columns (front ++ fits ∷ []) rows ])
      by_row (Ok fits) s go = go fits
      by_row (Err r) s go = record { it = s.it }

  inserted_misses : (session number : ℕ) (rows : List Row) → Misses (misfit schema (Inserts session number rows))
  inserted_misses session number rows = table_misses session number _ (λ table. first_misses (rows_fault table rows) (span_refusal (has_bad_span table.period rows)) (span_misses (has_bad_span table.period rows)))

  insert_says : (session number : ℕ) (columns : Option (List ℕ)) (rows : List Row) → Says (insert_step schema session number columns rows)
  unfolding insert_step
  insert_says session number columns rows = by_table (table_at schema number)
    where
      by_list : (table : Table) (t : Bool) → Says {A = Step} (if t then (fitting_rows table columns [] rows >>= λ fit. fitting_step schema (Inserts session number fit)) else Err (BadRow 0))
      by_list table true = then_says _ _ (rows_say table columns [] rows) (λ fit. step_says (Inserts session number fit) (inserted_misses session number fit))
      by_list table false = record { it = tt }

      by_table : (o : Option Table)
          → Says {A = Step} (elim o [
            | None ↦ Err NoTable
            | Some table ↦ if is_good_list columns then (fitting_rows table columns [] rows >>= λ fit. fitting_step schema (Inserts session number fit)) else Err (BadRow 0)
          ])
      by_table None = record { it = tt }
      by_table (Some table) = by_list table (is_good_list columns)

  portion_says : (number : ℕ) (of_period : Bool) (step : Step) → Misses (misfit schema step) → Says (portion_step schema number of_period step)
  unfolding portion_step
  portion_says number of_period step m = by_table (table_at schema number) of_period
    where
      by_table : (o : Option Table) (t : Bool) → Says {A = Step} (elim o [ None ↦ Err NoTable | Some _ ↦ if t then fitting_step schema step else Err (BadRow 0) ])
      by_table None t = record { it = tt }
      by_table (Some table) true = step_says step m
      by_table (Some table) false = record { it = tt }

  update_says : (session : ℕ) (keys : Keys) (portion : Option Portion) (sets : List Set) → Says (update_step schema session keys portion sets)
  update_says session keys None sets = step_says (Updates session keys sets) (table_misses session keys.table _ (λ table. column_misses (update_fault table keys sets)))
  update_says session keys (Some p) sets =
      portion_says keys.table p.of_period (UpdatesPortion session keys p.span sets) (table_misses session keys.table _ (λ table. portion_misses p.span (update_fault table keys sets) table))

  delete_says : (session : ℕ) (keys : Keys) (portion : Option Portion) → Says (delete_step schema session keys portion)
  delete_says session keys None = step_says (Deletes session keys) (table_misses session keys.table _ (keys_miss keys))
  delete_says session keys (Some p) =
      portion_says keys.table p.of_period (DeletesPortion session keys p.span) (table_misses session keys.table _ (λ table. portion_misses p.span (comparisons_fault table keys.comparisons) table))

  session_says : (reading session : ℕ) (statement : Statement) → Says (session_step schema reading session statement)
  unfolding session_step
  session_says reading session Begin = step_says (Begins session) (session_misses session)
  session_says reading session (Insert number columns rows) = insert_says session number columns rows
  session_says reading session (Update keys portion sets) = update_says session keys portion sets
  session_says reading session (Delete keys portion) = delete_says session keys portion
  session_says reading session (Select form keys) = step_says (Selects session form keys) (table_misses session keys.table _ (keys_miss keys))
  session_says reading session Commit = step_says (Commits session reading) (session_misses session)
  session_says reading session Rollback = step_says (RollsBack session) (session_misses session)

  step_of_says : (reading session : ℕ) (statement : Statement) → Says (step_of schema reading session statement)
  unfolding step_of
  step_of_says reading session statement = by_test ((session == 0) || nat_lt max_session session)
    where
      by_test : (t : Bool) → Says {A = Step} (if t then Err NoSession else session_step schema reading session statement)
      by_test true = record { it = tt }
      by_test false = session_says reading session statement

  column_says : (session number : ℕ) (name : List ℕ) (of : ColumnType) → Says (column_step schema session number name of)
  unfolding column_step
  column_says session number name of = by_test ((session == 0) || nat_lt max_session session)
    where
      by_test : (t : Bool) → Says {A = Step} (if t then Err NoSession else fitting_step schema (AddsColumn session number name of))
      by_test true = record { it = tt }
      by_test false = step_says (AddsColumn session number name of) (table_misses session number _ (λ table. column_misses (addition_fault name of table)))

  written_says : (reading : ℕ) (written : Written) → Says (meaning_of schema reading written)
  unfolding meaning_of
  written_says reading (Clock instant) = record { it = tt }
  written_says reading (SplitKey key) = then_says _ _ (step_says (SplitsKey key) (table_misses 0 key.table _ (λ table. column_misses (key_fault table key.parts)))) (λ step. record { it = tt })
  written_says reading (SplitTime key instant) = then_says _ _ (step_says (SplitsTime key instant) (table_misses 0 key.table _ (λ table. column_misses (key_fault table key.parts)))) (λ step. record { it = tt })
  written_says reading Migrate = record { it = tt }
  written_says reading (Session session statement) = then_says _ _ (step_of_says reading session statement) (λ step. record { it = tt })
  written_says reading (AddColumn session table name of) = then_says _ _ (column_says session table name of) (λ step. record { it = tt })

  -- a line of the grammar is never refused for its syntax
  pub never_syntax : (reading : ℕ) (written : Written) (n : ℕ) → meaning_of schema reading written ≡ Err (Syntax n) → ⊥
  never_syntax reading written n is = let Q : Result Line Refusal → Type 0 = λ r. Fits r in subst Q is (written_says reading written).it
