-- The steps that lines ask for have values that can be printed, and names of lines.
use Rattle.std.proofs.Common.{◌⊎◌, ℕ, ◌≤◌, ◌+◌, ◌^◌, zero, suc, Bool, true, false, List, [], ◌∷◌, ◌++◌, Option, Some, None, Ok, Err, ℤ, pos, neg_ℤ, inl, inr, sym, subst, arith}
use Rattle.std.specs.Prelude.{Result, IfOk, IfSome, length, nat_lt, unwrap_or, ◌==◌, ◌||◌, if◌then◌else◌}
use Rattle.std.specs.List.{AllByRecursion, slice_get}
use Rattle.values.specs.declared.query.Keys.{Keys}
use Rattle.values.specs.declared.query.Set.{Set}
use Rattle.values.specs.declared.refusal.Refusal.{Refusal}
use Rattle.values.specs.declared.refusal.Refusal.TheVariants.{BadRow, LineTooLong, NoSession, NoTable}
use Rattle.values.specs.declared.table.Column.{Column}
use Rattle.values.specs.declared.table.ColumnType.{ColumnType}
use Rattle.values.specs.declared.table.Table.{Table}
use Rattle.values.specs.declared.value.Value.{Value}
use Rattle.values.specs.declared.value.Value.TheVariants.{Int, Text, Bool as Truth, Null}
use Rattle.values.specs.Fit.{row_fault}
use Rattle.values.specs.Log.{Row}
use Rattle.values.specs.Tables.{Schema, table_at}
use Rattle.steps.specs.declared.step.Step.{Step}
use Rattle.steps.specs.declared.step.Step.TheVariants.{Begin as Begins, Insert as Inserts, Update as Updates, Delete as Deletes, UpdatePortion as UpdatesPortion, DeletePortion as DeletesPortion, Select as Selects, Commit as Commits, Rollback as RollsBack, SplitKey as SplitsKey, SplitTime as SplitsTime, AddColumn as AddsColumn}
use Rattle.steps.specs.Misfit.{max_session, misfit}
use Rattle.tokens.specs.Token.{◌>>=◌}
use Rattle.lines.specs.Partial.{longest_line}
use Rattle.statement.specs.declared.line.Line.{Line}
use Rattle.statement.specs.declared.line.Line.TheVariants.{Nothing, Clock, Step as Asks}
use Rattle.statement.specs.declared.line.Written.{Written}
use Rattle.statement.specs.declared.line.Written.TheVariants.{Clock as SetsClock, SplitKey, SplitTime, Migrate, Session, AddColumn}
use Rattle.statement.specs.declared.portion.Portion.{Portion}
use Rattle.statement.specs.declared.statement.Statement.{Statement}
use Rattle.statement.specs.declared.statement.Statement.TheVariants.{Begin, Insert, Update, Delete, Select, Commit, Rollback}
use Rattle.statement.specs.Grammar.{IsLine, IsNothing, IsPortion, IsRow, IsServedLine, IsSet, IsStatement, Listed, Literal, Number, Symbol}
use Rattle.statement.specs.GrammarLaw.{ArePlain, IsPlain, IsRefused, LinesAreRead, Lines, NothingIsRead, OnlyLinesAreRead, Reader}
use Rattle.statement.specs.Line.{before_feed, body_of, body_says, line_of, line_says, meaning_of}
use Rattle.statement.specs.Meaning.{column_step, delete_step, fitting_row, fitting_rows, fitting_step, insert_step, is_good_list, of_session, place_of, portion_step, row_in, row_values, row_values_from, session_step, step_of, update_step, value_of}
use Rattle.statement.specs.ServedLine.{served_body_says, served_line_says}
use Rattle.statement.proofs.GrammarReads.{script_nothing, script_only, script_read, served_nothing, served_only, served_read}
use Rattle.dump_reading.specs.Readable.{IsReadableName}
use Rattle.dump_reading.proofs.ReadableHistoriesRows.{got, pushed, rows_pushed}
use Rattle.dump_reading.specs.ReadableHistories.{ArePlainSets, AskedStepsAreReadable, IsPlainSpan, IsReadableStep, ServedStepsAreReadable}

-- ---- what is written

number_plain : (z : ℤ) (bytes rest : List ℕ) → Number z bytes rest → IsPlain (Int z)
number_plain z bytes rest (inl is) = let within = (is.1.1).within in subst (λ (y : ℤ). IsPlain (Int y)) (sym is.1.0) (omega (arith, within))
number_plain z bytes rest (inr is) = subst (λ (y : ℤ). IsPlain (Int y)) (sym is.1.0) (by is.0 (is.1.1.1.1).within)
  where
    by : (n : ℕ) → n ≤ 2 ^ 63 → IsPlain (Int (neg_ℤ (pos n)))
    by zero within = omega arith
    by (suc n) within = omega (arith, within)

literal_plain : (v : Value) (bytes rest : List ℕ) → Literal v bytes rest → IsPlain v
literal_plain (Int z) bytes rest is = number_plain z is.0 rest is.1.1
literal_plain (Text t) bytes rest is = (is.1.1).utf8
literal_plain (Truth t) bytes rest is = tt
literal_plain Null bytes rest is = tt

literals_plain : (vs : List Value) (bytes rest : List ℕ) → Listed (Symbol 44) Literal vs bytes rest → ArePlain vs
literals_plain [] bytes rest is = absurd is
literals_plain (v ∷ []) bytes rest is = (literal_plain v bytes rest is, tt)
literals_plain (v ∷ w ∷ vs) bytes rest is = (literal_plain v bytes is.0 is.1.0, literals_plain (w ∷ vs) is.1.1.0 rest is.1.1.1.1)

rows_plain : (rows : List Row) (bytes rest : List ℕ) → Listed (Symbol 44) IsRow rows bytes rest → AllByRecursion ArePlain rows
rows_plain [] bytes rest is = absurd is
rows_plain (row ∷ []) bytes rest is = (literals_plain row is.0 is.1.1.0 is.1.1.1.0, tt)
rows_plain (row ∷ other ∷ rows) bytes rest is =
    let first = is.1.0 in (literals_plain row first.0 first.1.1.0 first.1.1.1.0, rows_plain (other ∷ rows) is.1.1.0 rest is.1.1.1.1)

module _ (schema : Schema) where
  sets_plain : (table : ℕ) (sets : List Set) (bytes rest : List ℕ) → Listed (Symbol 44) (IsSet schema table) sets bytes rest → ArePlainSets sets
  sets_plain table [] bytes rest is = absurd is
  sets_plain table (s ∷ []) bytes rest is = (literal_plain s.value is.1.1.0 rest is.1.1.1.1, tt)
  sets_plain table (s ∷ t ∷ sets) bytes rest is =
      let first = is.1.0 in (literal_plain s.value first.1.1.0 is.0 first.1.1.1.1, sets_plain table (t ∷ sets) is.1.1.0 rest is.1.1.1.1)

  abbrev IsPlainPortion : Option Portion → Type 0
  IsPlainPortion portion = IfSome portion (λ p. IsPlainSpan p.span)

  portion_plain : (table : ℕ) (portion : Option Portion) (bytes rest : List ℕ) → IsPortion schema table portion bytes rest → IsPlainPortion portion
  portion_plain table None bytes rest is = tt
  portion_plain table (Some p) bytes rest is =
      let bounds = is.1.1.1.1.1.1.1.1 in
      let from = bounds.1.1 in
      let to = from.1.1.1.1 in
      (number_plain (p.span).from (from.1.0).0 from.0 (from.1.0).1.1, number_plain (p.span).to to.0 rest to.1.1)

  abbrev IsPlainStatement : Statement → Type 0
  IsPlainStatement (Insert table columns rows) = AllByRecursion ArePlain rows
  IsPlainStatement (Update keys portion sets) = IsPlainPortion portion × ArePlainSets sets
  IsPlainStatement (Delete keys portion) = IsPlainPortion portion
  IsPlainStatement Begin = Unit {0}
  IsPlainStatement (Select form keys) = Unit {0}
  IsPlainStatement Commit = Unit {0}
  IsPlainStatement Rollback = Unit {0}

  statement_plain : (statement : Statement) (bytes rest : List ℕ) → IsStatement schema statement bytes rest → IsPlainStatement statement
  statement_plain (Insert table columns rows) bytes rest is = rows_plain rows _ rest is.1.1.1.1.1.1.1.1.1.1
  statement_plain (Update keys portion sets) bytes rest is =
      let behind = is.1.1.1.1 in
      (portion_plain keys.table portion _ behind.0 behind.1.0, sets_plain keys.table sets _ (behind.1.1.1.1).0 (behind.1.1.1.1).1.0)
  statement_plain (Delete keys portion) bytes rest is = let behind = is.1.1.1.1.1.1 in portion_plain keys.table portion _ behind.0 behind.1.0
  statement_plain Begin bytes rest is = tt
  statement_plain (Select form keys) bytes rest is = tt
  statement_plain Commit bytes rest is = tt
  statement_plain Rollback bytes rest is = tt

  abbrev IsPlainWritten : Written → Type 0
  IsPlainWritten (Session session statement) = IsPlainStatement statement
  IsPlainWritten (AddColumn session table name of) = IsReadableName name
  IsPlainWritten (SetsClock instant) = Unit {0}
  IsPlainWritten (SplitKey key) = Unit {0}
  IsPlainWritten (SplitTime key instant) = Unit {0}
  IsPlainWritten Migrate = Unit {0}

  line_plain : (written : Written) (bytes : List ℕ) → IsLine schema written bytes → IsPlainWritten written
  line_plain (Session session statement) bytes is = let request = is.1.1.1.1 in statement_plain statement _ request.0 request.1.0
  line_plain (AddColumn session table name of) bytes is =
      let named = ((is.1.1.1.1).1.0).1.1.1.1.1.1.1.1.1.1.1.0 in record { bytes = (named.1.1.0).all; named = named.1.1.1 }
  line_plain (SetsClock instant) bytes is = tt
  line_plain (SplitKey key) bytes is = tt
  line_plain (SplitTime key instant) bytes is = tt
  line_plain Migrate bytes is = tt

  served_plain : (session : ℕ) (written : Written) (bytes : List ℕ) → IsServedLine schema session written bytes → IsPlainWritten written
  served_plain session (Session number statement) bytes is = let request = is.1 in statement_plain statement bytes request.0 request.1.0
  served_plain session (AddColumn number table name of) bytes is = absurd is
  served_plain session (SetsClock instant) bytes is = tt
  served_plain session (SplitKey key) bytes is = tt
  served_plain session (SplitTime key instant) bytes is = tt
  served_plain session Migrate bytes is = tt

  -- ---- what it means

  ok_then : {A B E : Type 0} (P : A → Type 0) (Q : B → Type 0) (r : Result A E) (f : A → Result B E) → IfOk r P → ((x : A) → P x → IfOk (f x) Q) → IfOk (r >>= f) Q
  ok_then P Q (Ok x) f is go = go x is
  ok_then P Q (Err e) f is go = tt

  fitting : (step : Step) → IsReadableStep step → IfOk (fitting_step schema step) IsReadableStep
  fitting step readable = by (misfit schema step)
    where
      by : (u : Option Refusal) → IfOk (elim u [ Some refusal ↦ Err refusal | None ↦ Ok step ]) IsReadableStep
      by None = readable
      by (Some refusal) = tt

  value_plain : (columns : List ℕ) (row : Row) (number : ℕ) → ArePlain row → IsPlain (value_of columns row number)
  value_plain columns row number plain = by (place_of columns number)
    where
      by : (o : Option ℕ) → IsPlain (elim o as (λ _. Value) [ None ↦ Null | Some i ↦ unwrap_or (slice_get row i) Null ])
      by None = tt
      by (Some i) = got row i plain

  ordered_plain : (columns : List ℕ) (row front : Row) (number : ℕ) (cs : List Column) → ArePlain row → ArePlain front → ArePlain (row_values_from columns row front number cs)
  ordered_plain columns row front number [] plain before = before
  ordered_plain columns row front number (c ∷ cs) plain before =
      ordered_plain columns row (front ++ value_of columns row number ∷ []) (number + 1) cs plain (pushed front (value_of columns row number) before (value_plain columns row number plain))

  row_in_plain : (table : Table) (row : Row) → ArePlain row → IfOk (row_in table row) ArePlain
  row_in_plain table row plain = by (row_fault table row)
    where
      by : (o : Option ℕ) → IfOk (elim o as (λ _. Result Row Refusal) [ Some column ↦ Err (BadRow column) | None ↦ Ok row ]) ArePlain
      by None = plain
      by (Some column) = tt

  fitting_row_plain : (table : Table) (columns : Option (List ℕ)) (row : Row) → ArePlain row → IfOk (fitting_row table columns row) ArePlain
  unfolding fitting_row
  fitting_row_plain table None row plain = row_in_plain table row plain
  fitting_row_plain table (Some columns) row plain = by (length columns == length row)
    where
      by : (b : Bool) → IfOk (if b then row_in table (row_values table columns row) else Err (BadRow 0)) ArePlain
      by true = row_in_plain table (row_values table columns row) (ordered_plain columns row [] 1 table.columns plain tt)
      by false = tt

  fitting_rows_plain : (table : Table) (columns : Option (List ℕ)) (front rows : List Row) → AllByRecursion ArePlain front → AllByRecursion ArePlain rows → IfOk (fitting_rows table columns front rows) (AllByRecursion ArePlain)
  fitting_rows_plain table columns front [] before plain = before
  fitting_rows_plain table columns front (row ∷ rows) before plain =
      by (fitting_row table columns row) (fitting_row_plain table columns row plain.0) (λ fits one. fitting_rows_plain table columns (front ++ fits ∷ []) rows (rows_pushed front fits before one) plain.1)
    where
      by : (r : Result Row Refusal) → IfOk r ArePlain → ((fits : Row) → ArePlain fits → IfOk (fitting_rows table columns (front ++ fits ∷ []) rows) (AllByRecursion ArePlain))
          → IfOk (elim r as (λ _. Result (List Row) Refusal) [ Err refusal ↦ Err refusal | Ok fits ↦ fitting_rows table columns (front ++ fits ∷ []) rows ]) (AllByRecursion ArePlain)
      by (Ok fits) is go = go fits is
      by (Err refusal) is go = tt

  insert_plain : (session number : ℕ) (columns : Option (List ℕ)) (rows : List Row) → AllByRecursion ArePlain rows → IfOk (insert_step schema session number columns rows) IsReadableStep
  unfolding insert_step
  insert_plain session number columns rows plain = by (table_at schema number) (is_good_list columns)
    where
      by : (found : Option Table) (b : Bool) → IfOk (elim found [
        | None ↦ Err NoTable
        | Some table ↦ if b then (fitting_rows table columns [] rows >>= λ fit. fitting_step schema (Inserts session number fit)) else Err (BadRow 0)
      ]) IsReadableStep
      by None b = tt
      by (Some table) true = ok_then (AllByRecursion ArePlain) IsReadableStep (fitting_rows table columns [] rows) _ (fitting_rows_plain table columns [] rows tt plain) (λ fit all. fitting (Inserts session number fit) all)
      by (Some table) false = tt

  portion_readable : (number : ℕ) (of_period : Bool) (step : Step) → IsReadableStep step → IfOk (portion_step schema number of_period step) IsReadableStep
  unfolding portion_step
  portion_readable number of_period step readable = by (table_at schema number) of_period
    where
      by : (found : Option Table) (b : Bool) → IfOk (elim found [ None ↦ Err NoTable | Some _ ↦ if b then fitting_step schema step else Err (BadRow 0) ]) IsReadableStep
      by None b = tt
      by (Some table) true = fitting step readable
      by (Some table) false = tt

  update_plain : (session : ℕ) (keys : Keys) (portion : Option Portion) (sets : List Set) → IsPlainPortion portion → ArePlainSets sets → IfOk (update_step schema session keys portion sets) IsReadableStep
  update_plain session keys None sets cut plain = fitting (Updates session keys sets) plain
  update_plain session keys (Some portion) sets cut plain = portion_readable keys.table portion.of_period (UpdatesPortion session keys portion.span sets) (cut, plain)

  delete_plain : (session : ℕ) (keys : Keys) (portion : Option Portion) → IsPlainPortion portion → IfOk (delete_step schema session keys portion) IsReadableStep
  delete_plain session keys None cut = fitting (Deletes session keys) tt
  delete_plain session keys (Some portion) cut = portion_readable keys.table portion.of_period (DeletesPortion session keys portion.span) cut

  session_plain : (reading session : ℕ) (statement : Statement) → IsPlainStatement statement → IfOk (session_step schema reading session statement) IsReadableStep
  unfolding session_step
  session_plain reading session Begin plain = fitting (Begins session) tt
  session_plain reading session (Insert number columns rows) plain = insert_plain session number columns rows plain
  session_plain reading session (Update keys portion sets) plain = update_plain session keys portion sets plain.0 plain.1
  session_plain reading session (Delete keys portion) plain = delete_plain session keys portion plain
  session_plain reading session (Select form keys) plain = fitting (Selects session form keys) tt
  session_plain reading session Commit plain = fitting (Commits session reading) tt
  session_plain reading session Rollback plain = fitting (RollsBack session) tt

  of_session_readable : (session : ℕ) (r : Result Step Refusal) → IfOk r IsReadableStep → IfOk (of_session schema session r) IsReadableStep
  of_session_readable session r is = by ((session == 0) || nat_lt max_session session)
    where
      by : (b : Bool) → IfOk (if b then Err NoSession else r) IsReadableStep
      by true = tt
      by false = is

  step_readable : (reading session : ℕ) (statement : Statement) → IsPlainStatement statement → IfOk (step_of schema reading session statement) IsReadableStep
  unfolding step_of
  step_readable reading session statement plain = of_session_readable session (session_step schema reading session statement) (session_plain reading session statement plain)

  column_readable : (session number : ℕ) (name : List ℕ) (of : ColumnType) → IsReadableName name → IfOk (column_step schema session number name of) IsReadableStep
  unfolding column_step
  column_readable session number name of plain = of_session_readable session (fitting_step schema (AddsColumn session number name of)) (fitting (AddsColumn session number name of) plain)

  -- ---- and the line

  abbrev IsReadableLine : Line → Type 0
  IsReadableLine Nothing = Unit {0}
  IsReadableLine (Clock reading) = Unit {0}
  IsReadableLine (Asks step) = IsReadableStep step

  of_line : (r : Result Step Refusal) → IfOk r IsReadableStep → IfOk (line_of r) IsReadableLine
  of_line r is = ok_then IsReadableStep IsReadableLine r (λ fits. Ok (Asks fits)) is (λ step its. its)

  meaning_readable : (reading : ℕ) (written : Written) → IsPlainWritten written → IfOk (meaning_of schema reading written) IsReadableLine
  unfolding meaning_of
  meaning_readable reading (SetsClock instant) plain = tt
  meaning_readable reading (SplitKey key) plain = of_line (fitting_step schema (SplitsKey key)) (fitting (SplitsKey key) tt)
  meaning_readable reading (SplitTime key instant) plain = of_line (fitting_step schema (SplitsTime key instant)) (fitting (SplitsTime key instant) tt)
  meaning_readable reading Migrate plain = tt
  meaning_readable reading (Session session statement) plain = of_line (step_of schema reading session statement) (step_readable reading session statement plain)
  meaning_readable reading (AddColumn session table name of) plain = of_line (column_step schema session table name of) (column_readable session table name of plain)

  -- by the laws of reading, whatever lines there are
  module _ (Is : Lines) (says : Reader) (read : LinesAreRead schema Is says) (nothing : NothingIsRead schema Is says) (only : OnlyLinesAreRead schema Is says)
      (plain : (written : Written) (bytes : List ℕ) → Is written bytes → IsPlainWritten written) where
    body_readable : (reading : ℕ) (bytes : List ℕ) → IfOk (says reading bytes) IsReadableLine
    body_readable reading bytes = by (only reading bytes)
      where
        by : IsNothing bytes ⊎ (((written : Written) × Is written bytes) ⊎ IsRefused schema Is says reading bytes) → IfOk (says reading bytes) IsReadableLine
        by (inl is) = subst (λ (r : Result Line Refusal). IfOk r IsReadableLine) (sym (nothing reading bytes is).0) tt
        by (inr (inl is)) = subst (λ (r : Result Line Refusal). IfOk r IsReadableLine) (sym (read reading bytes is.0 is.1)) (meaning_readable reading is.0 (plain is.0 bytes is.1))
        by (inr (inr refused)) = subst (λ (r : Result Line Refusal). IfOk r IsReadableLine) (sym refused.1.0) tt

  line_readable : (long : Bool) (r : Result Line Refusal) → IfOk r IsReadableLine → IfOk (if long then Err LineTooLong else r) IsReadableLine
  line_readable true r is = tt
  line_readable false r is = is

  script_readable : (reading : ℕ) (line : List ℕ) → IfOk (line_says schema reading line) IsReadableLine
  unfolding line_says
  script_readable reading line =
      line_readable (nat_lt longest_line (length (before_feed line))) (body_says schema reading (body_of line))
      (body_readable (IsLine schema) (body_says schema) (script_read schema) (script_nothing schema) (script_only schema) line_plain reading (body_of line))

  served_readable : (session reading : ℕ) (line : List ℕ) → IfOk (served_line_says schema session reading line) IsReadableLine
  unfolding served_line_says
  served_readable session reading line =
      line_readable (nat_lt longest_line (length (before_feed line))) (served_body_says schema session reading (body_of line))
      (body_readable (IsServedLine schema session) (served_body_says schema session) (served_read schema session) (served_nothing schema session) (served_only schema session) (served_plain session) reading (body_of line))

pub asked_steps_are_readable : AskedStepsAreReadable
asked_steps_are_readable schema reading line step is = subst (λ (r : Result Line Refusal). IfOk r (IsReadableLine schema)) is (script_readable schema reading line)

pub served_steps_are_readable : ServedStepsAreReadable
served_steps_are_readable schema session reading line step is = subst (λ (r : Result Line Refusal). IfOk r (IsReadableLine schema)) is (served_readable schema session reading line)
