-- What the tables and the log of a history have where its steps were read from lines.
use Rattle.std.specs.Prelude.{◌≡◌, ℕ, List, Bool, Ok}
use Rattle.std.specs.List.{AllByRecursion}
use Rattle.values.specs.declared.period.Span.{Span}
use Rattle.values.specs.declared.query.Set.{Set}
use Rattle.values.specs.declared.table.Table.{Table}
use Rattle.values.specs.declared.value.Value.TheVariants.{Int}
use Rattle.values.specs.Log.{Row}
use Rattle.values.specs.Sample.{sample}
use Rattle.values.specs.TableRules.{AreTables}
use Rattle.values.specs.Tables.{Schema}
use Rattle.steps.specs.declared.step.Step.{Step}
use Rattle.steps.specs.declared.step.Step.TheVariants.{AddColumn, Begin, Commit, Delete, DeletePortion, Insert, Migrate, Rollback, Select, SplitKey, SplitTime, Update, UpdatePortion}
use Rattle.histories.specs.History.{History, log, schema_after}
use Rattle.rows.specs.SchemaTable.{read_schema}
use Rattle.statement.specs.declared.line.Line.TheVariants.{Step as Asks}
use Rattle.statement.specs.GrammarLaw.{ArePlain, IsPlain}
use Rattle.statement.specs.Line.{line_says}
use Rattle.statement.specs.ServedLine.{served_line_says}
use Rattle.interchange.specs.Load.{Loads}
use Rattle.scripts.specs.Replay.{Replays}
use Rattle.scripts.specs.Transcript.{leaves_after}
use Rattle.dump_reading.specs.Readable.{AreReadableTables, HaveReadableNames, IsReadableLog, IsReadableName}

-- ---- steps

abbrev pub ArePlainSets : List Set → Type 0
ArePlainSets sets = AllByRecursion (λ s. IsPlain s.value) sets

abbrev pub IsPlainSpan : Span → Type 0
IsPlainSpan span = IsPlain (Int span.from) × IsPlain (Int span.to)

-- the values that it writes can be printed, and the name that it gives a column is one of lines
abbrev pub IsReadableStep : Step → Type 0
IsReadableStep (Insert i number rows) = AllByRecursion ArePlain rows
IsReadableStep (Update i keys sets) = ArePlainSets sets
IsReadableStep (UpdatePortion i keys cut sets) = IsPlainSpan cut × ArePlainSets sets
IsReadableStep (DeletePortion i keys cut) = IsPlainSpan cut
IsReadableStep (AddColumn i number name of) = IsReadableName name
IsReadableStep (Begin i) = Unit {0}
IsReadableStep (Delete i keys) = Unit {0}
IsReadableStep (Select i form keys) = Unit {0}
IsReadableStep (Commit i reading) = Unit {0}
IsReadableStep (Rollback i) = Unit {0}
IsReadableStep (SplitKey key) = Unit {0}
IsReadableStep (SplitTime key instant) = Unit {0}
IsReadableStep Migrate = Unit {0}

abbrev pub IsReadableHistory : History → Type 0
IsReadableHistory h = AllByRecursion IsReadableStep h

-- the steps that lines ask for are such
abbrev pub AskedStepsAreReadable : Type 0
AskedStepsAreReadable =
    (schema : Schema) (reading : ℕ) (line : List ℕ) (step : Step)
    → line_says schema reading line ≡ Ok (Asks step) → IsReadableStep step

-- and those that a session's lines ask for
abbrev pub ServedStepsAreReadable : Type 0
ServedStepsAreReadable =
    (schema : Schema) (session reading : ℕ) (line : List ℕ) (step : Step)
    → served_line_says schema session reading line ≡ Ok (Asks step) → IsReadableStep step

-- rows of a file of CSV, which an INSERT takes
abbrev pub LoadedRowsAreReadable : Type 0
LoadedRowsAreReadable =
    (table : Table) (bytes : List ℕ) (rows : List Row) → Loads table bytes (Ok rows)
    → AllByRecursion ArePlain rows

-- what a text that is replayed leaves
abbrev pub ReplaysLeaveReadable : Type 0
ReplaysLeaveReadable =
    (first : Schema) (h later : History) (text : List ℕ)
    → Replays first line_says h text later → IsReadableHistory h → IsReadableHistory later

-- and a script, at whatever lines memory ran out
abbrev pub ScriptsLeaveReadable : Type 0
ScriptsLeaveReadable =
    (first : Schema) (h : History) (marks : List Bool) (text : List ℕ) → IsReadableHistory h
    → IsReadableHistory (leaves_after first line_says h marks text).history

-- ---- tables

pub record IsReadableSchema (schema : Schema) : Type 0 where
  pub good : AreTables 1 schema.tables
  pub names : HaveReadableNames schema.tables

-- a schema that was read
abbrev pub ReadSchemasAreReadable : Type 0
ReadSchemasAreReadable =
    (text : List ℕ) (schema : Schema) → read_schema text ≡ Ok schema → IsReadableSchema schema

-- the one where none is declared
abbrev pub SampleIsReadable : Type 0
SampleIsReadable = IsReadableSchema sample

-- with the columns that they got
abbrev pub GrownTablesAreReadable : Type 0
GrownTablesAreReadable =
    (first : Schema) (h : History) → IsReadableSchema first → IsReadableHistory h
    → AreReadableTables first (schema_after first h)

-- ---- logs

abbrev pub LogsAreReadable : Type 0
LogsAreReadable =
    (first : Schema) (h : History) → AreTables 1 first.tables → IsReadableHistory h
    → IsReadableLog (log first h)
