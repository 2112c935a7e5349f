-- A step that a line asks for fits the tables by which the line is read.
use Rattle.std.proofs.Common.{◌≡◌, ℕ, Bool, true, false, List, [], Option, Some, None, Ok, Err, refl, subst}
use Rattle.std.specs.Prelude.{Result, IfOk, ◌-◌, ◌==◌, ◌||◌, length, nat_lt, if◌then◌else◌}
use Rattle.values.specs.declared.table.Table.{Table}
use Rattle.values.specs.declared.table.ColumnType.{ColumnType}
use Rattle.values.specs.declared.query.Keys.{Keys}
use Rattle.values.specs.declared.query.Set.{Set}
use Rattle.values.specs.declared.refusal.Refusal.{Refusal}
use Rattle.values.specs.declared.refusal.Refusal.TheVariants.{BadRow, LineTooLong, NoSession, NoTable, Syntax}
use Rattle.values.specs.Log.{Row}
use Rattle.values.specs.Tables.{Schema, table_at}
use Rattle.steps.specs.declared.step.Step.{Step}
use Rattle.steps.specs.declared.step.Step.TheVariants.{Begin as Begins, Insert as Inserts, Update as Updates, Delete as Deletes, UpdatePortion as UpdatesPortion, DeletePortion as DeletesPortion, Select as Selects, Commit as Commits, Rollback as RollsBack, SplitKey as SplitsKey, SplitTime as SplitsTime, AddColumn as AddsColumn}
use Rattle.steps.specs.Misfit.{max_session, misfit}
use Rattle.tokens.specs.Token.{Read, ◌>>=◌}
use Rattle.lines.specs.Partial.{longest_line}
use Rattle.statement.specs.declared.line.Line.{Line}
use Rattle.statement.specs.declared.line.Line.TheVariants.{Nothing, Clock, Step as Asks}
use Rattle.statement.specs.declared.line.Written.{Written}
use Rattle.statement.specs.declared.line.Written.TheVariants.{Clock as SetsClock, SplitKey, SplitTime, Migrate, Session, AddColumn}
use Rattle.statement.specs.declared.portion.Portion.{Portion}
use Rattle.statement.specs.declared.statement.Statement.{Statement}
use Rattle.statement.specs.declared.statement.Statement.TheVariants.{Begin, Insert, Update, Delete, Select, Commit, Rollback}
use Rattle.statement.specs.Token.{next}
use Rattle.statement.specs.Meaning.{is_good_list, fitting_rows, fitting_step, insert_step, portion_step, update_step, delete_step, session_step, of_session, step_of, column_step}
use Rattle.statement.specs.Line.{before_feed, body_of, is_nothing, line_of, meaning_of, written_at, body_says, line_says}

then_ok : {A B E : Type 0} (P : B → Type 0) (r : Result A E) (f : A → Result B E) → ((x : A) → IfOk (f x) P) → IfOk (r >>= f) P
then_ok P (Ok x) f go = go x
then_ok P (Err e) f go = tt

ok_then : {A B E : Type 0} (P : A → Type 0) (Q : B → Type 0) (r : Result A E) (f : A → Result B E) → IfOk r P → ((x : A) → P x → IfOk (f x) Q) → IfOk (r >>= f) Q
ok_then P Q (Ok x) f is go = go x is
ok_then P Q (Err e) f is go = tt

module _ (schema : Schema) where
  abbrev Fits : Step → Type 0
  Fits step = misfit schema step ≡ None

  fitting : (step : Step) → IfOk (fitting_step schema step) Fits
  fitting step = by (misfit schema step) refl
    where
      by : (u : Option Refusal) → misfit schema step ≡ u → IfOk (elim u [ Some refusal ↦ Err refusal | None ↦ Ok step ]) Fits
      by None is = is
      by (Some refusal) is = tt

  insert_fits : (session number : ℕ) (columns : Option (List ℕ)) (rows : List Row) → IfOk (insert_step schema session number columns rows) Fits
  unfolding insert_step
  insert_fits session number columns rows = by (table_at schema number) (is_good_list columns)
    where
      by : (found : Option Table) (b : Bool) → IfOk (elim found [
        | None ↦ Err NoTable
        | Some table ↦ if b then (fitting_rows table columns [] rows >>= λ fit. fitting_step schema (Inserts session number fit)) else Err (BadRow 0)
      ]) Fits
      by None b = tt
      by (Some table) true = then_ok Fits (fitting_rows table columns [] rows) _ (λ fit. fitting (Inserts session number fit))
      by (Some table) false = tt

  portion_fits : (number : ℕ) (of_period : Bool) (step : Step) → IfOk (portion_step schema number of_period step) Fits
  unfolding portion_step
  portion_fits number of_period step = by (table_at schema number) of_period
    where
      by : (found : Option Table) (b : Bool) → IfOk (elim found [ None ↦ Err NoTable | Some _ ↦ if b then fitting_step schema step else Err (BadRow 0) ]) Fits
      by None b = tt
      by (Some table) true = fitting step
      by (Some table) false = tt

  update_fits : (session : ℕ) (keys : Keys) (portion : Option Portion) (sets : List Set) → IfOk (update_step schema session keys portion sets) Fits
  update_fits session keys None sets = fitting (Updates session keys sets)
  update_fits session keys (Some portion) sets = portion_fits keys.table portion.of_period (UpdatesPortion session keys portion.span sets)

  delete_fits : (session : ℕ) (keys : Keys) (portion : Option Portion) → IfOk (delete_step schema session keys portion) Fits
  delete_fits session keys None = fitting (Deletes session keys)
  delete_fits session keys (Some portion) = portion_fits keys.table portion.of_period (DeletesPortion session keys portion.span)

  session_fits : (reading session : ℕ) (statement : Statement) → IfOk (session_step schema reading session statement) Fits
  unfolding session_step
  session_fits reading session Begin = fitting (Begins session)
  session_fits reading session (Insert number columns rows) = insert_fits session number columns rows
  session_fits reading session (Update keys portion sets) = update_fits session keys portion sets
  session_fits reading session (Delete keys portion) = delete_fits session keys portion
  session_fits reading session (Select form keys) = fitting (Selects session form keys)
  session_fits reading session Commit = fitting (Commits session reading)
  session_fits reading session Rollback = fitting (RollsBack session)

  of_session_fits : (session : ℕ) (r : Result Step Refusal) → IfOk r Fits → IfOk (of_session schema session r) Fits
  of_session_fits session r is = by ((session == 0) || nat_lt max_session session)
    where
      by : (b : Bool) → IfOk (if b then Err NoSession else r) Fits
      by true = tt
      by false = is

  step_fits : (reading session : ℕ) (statement : Statement) → IfOk (step_of schema reading session statement) Fits
  unfolding step_of
  step_fits reading session statement = of_session_fits session (session_step schema reading session statement) (session_fits reading session statement)

  column_fits : (session number : ℕ) (name : List ℕ) (of : ColumnType) → IfOk (column_step schema session number name of) Fits
  unfolding column_step
  column_fits session number name of = of_session_fits session (fitting_step schema (AddsColumn session number name of)) (fitting (AddsColumn session number name of))

  -- ---- and the line

  abbrev FitsLine : Line → Type 0
  FitsLine Nothing = Unit {0}
  FitsLine (Clock reading) = Unit {0}
  FitsLine (Asks step) = Fits step

  line_fits : (r : Result Step Refusal) → IfOk r Fits → IfOk (line_of r) FitsLine
  line_fits r is = ok_then Fits FitsLine r (λ fits. Ok (Asks fits)) is (λ step its. its)

  meaning_fits : (reading : ℕ) (written : Written) → IfOk (meaning_of schema reading written) FitsLine
  unfolding meaning_of
  meaning_fits reading (SetsClock instant) = tt
  meaning_fits reading (SplitKey key) = line_fits (fitting_step schema (SplitsKey key)) (fitting (SplitsKey key))
  meaning_fits reading (SplitTime key instant) = line_fits (fitting_step schema (SplitsTime key instant)) (fitting (SplitsTime key instant))
  meaning_fits reading Migrate = refl
  meaning_fits reading (Session session statement) = line_fits (step_of schema reading session statement) (step_fits reading session statement)
  meaning_fits reading (AddColumn session table name of) = line_fits (column_step schema session table name of) (column_fits session table name of)

  body_fits : (reading : ℕ) (bytes : List ℕ) → IfOk (body_says schema reading bytes) FitsLine
  unfolding body_says
  body_fits reading bytes = by (is_nothing (next bytes)) (written_at schema bytes)
    where
      by : (b : Bool) (r : Read Written) → IfOk (if b then Ok Nothing else elim r [ Err at ↦ Err (Syntax (length bytes - length at)) | Ok x ↦ meaning_of schema reading x.0 ]) FitsLine
      by true r = tt
      by false (Ok x) = meaning_fits reading x.0
      by false (Err at) = tt

  says_fits : (reading : ℕ) (line : List ℕ) → IfOk (line_says schema reading line) FitsLine
  unfolding line_says
  says_fits reading line = by (nat_lt longest_line (length (before_feed line)))
    where
      by : (b : Bool) → IfOk (if b then Err LineTooLong else body_says schema reading (body_of line)) FitsLine
      by true = tt
      by false = body_fits reading (body_of line)

  pub asked_step_fits : (reading : ℕ) (line : List ℕ) (step : Step) → line_says schema reading line ≡ Ok (Asks step) → misfit schema step ≡ None
  asked_step_fits reading line step is = subst (λ r. IfOk r FitsLine) is (says_fits reading line)
