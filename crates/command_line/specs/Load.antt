-- What is loaded after a history and before a script, and what is written for it.
use Rattle.std.specs.Prelude.{◌≡◌, ◌⊎◌, ℕ, List, [], ◌∷◌, Option, Some, None, Result, Ok, Err, length}
use Rattle.std.specs.Io.KnownBytes.{Appends, Keeps}
use Rattle.clap.specs.Words.{Text}
use Rattle.values.specs.declared.table.Table.{Table}
use Rattle.values.specs.declared.refusal.Refusal.{Refusal}
use Rattle.values.specs.declared.refusal.Refusal.TheVariants.{NoTable, Memory as OutOfMemory}
use Rattle.values.specs.Log.{Row, last}
use Rattle.values.specs.TableNumber.{table_number}
use Rattle.values.specs.Tables.{Schema, table_at}
use Rattle.values.specs.TableRules.{IsTable}
use Rattle.steps.specs.declared.step.Step.{Step}
use Rattle.steps.specs.declared.step.Step.TheVariants.{Begin, Insert, Commit}
use Rattle.histories.specs.History.{History, log, schema_after}
use Rattle.histories.specs.Led.{led}
use Rattle.statement.specs.Writer.{AppendsPrefix}
use Rattle.interleaving.specs.SystemState.{SystemState, Stands}
use Rattle.interchange.specs.Load.{Loads, answered}
use Rattle.interchange.specs.Report.{loaded_text}
use Rattle.scripts.specs.First.{RefusesFirst, first_refusal}
use Rattle.command_line.specs.declared.fault.Fault.{Fault}
use Rattle.command_line.specs.declared.fault.Fault.TheVariants.{Load, Read, Write}
use Rattle.command_line.specs.Options.{name_in}

-- the table with a name
pub record IsNamed (schema : Schema) (name : Text) (table : Table) : Type 0 where
  pub number_is : table_number schema name ≡ Some table.number
  pub table_is : table_at schema table.number ≡ Some table
  pub good : IsTable table.number table

-- one transaction of session 0 inserts the rows at reading 0; without rows there is none
abbrev pub steps_of : ℕ → List Row → List Step
steps_of number [] = []
steps_of number (row ∷ rows) =
    Begin 0 ∷ Insert 0 number (row ∷ rows) ∷ Commit 0 0 ∷ []

-- what some file's rows are for the table that the text of --load names, with its number, or why it
-- has none
pub record FileSays (schema : Schema) (text : Text) (number : ℕ) (r : Result (List Row) Refusal)
    : Type 0 where
  pub table : Table
  pub is_named : IsNamed schema (name_in text) table
  pub number_is : table.number ≡ number
  pub bytes : List ℕ
  pub loads : Loads table bytes r

-- the rows of some file, for a table as it is after a history; their steps leave another: none of
-- them is refused
pub record IsLoad (schema : Schema) (text : Text) (before later : History) : Type 0 where
  pub number : ℕ
  pub rows : List Row
  pub says : FileSays (schema_after schema before) text number (Ok rows)
  pub taken : first_refusal schema before (steps_of number rows) ≡ None
  pub leaves : later ≡ led before (steps_of number rows)

-- the instant at which rows were loaded: none without rows
abbrev pub instant_of : Schema → List Row → History → ℕ
instant_of schema [] later = 0
instant_of schema (row ∷ rows) later = last (log schema later)

pub record HasWrittenLoad (schema : Schema) (text : Text) (before later : History)
    (old new : Option (List ℕ)) : Type 0 where
  pub load : IsLoad schema text before later
  pub wrote : Appends old new
      (loaded_text (length load.rows) (instant_of schema load.rows later))

-- what was loaded after a history, where that is asked for: this is the history then, and it was
-- reported
abbrev pub HasLoaded : Schema → Option Text → (before later : History)
    → (old new : Option (List ℕ)) → Type 0
HasLoaded schema None before later old new = (later ≡ before) × Keeps old new
HasLoaded schema (Some text) before later old new =
    HasWrittenLoad schema text before later old new

-- the rows of some file, of whose steps this is the first refusal
pub record IsRefusedLoad (schema : Schema) (before : History) (text : Text) (refusal : Refusal)
    : Type 0 where
  pub number : ℕ
  pub rows : List Row
  pub says : FileSays (schema_after schema before) text number (Ok rows)
  pub refused : first_refusal schema before (steps_of number rows) ≡ Some refusal

-- why there are no rows: memory ran out, there is no such table, some file has no rows for it, or its
-- rows are refused even where nothing was committed
abbrev pub IsNoLoad : Schema → Text → Refusal → Type 0
IsNoLoad schema text refusal =
    (refusal ≡ OutOfMemory)
    ⊎ (((refusal ≡ NoTable) × (table_number schema (name_in text) ≡ None))
    ⊎ (((number : ℕ) × FileSays schema text number (Err refusal))
    ⊎ IsRefusedLoad schema [] text refusal))

-- the writer failed in the report
pub record IsHalfReported (schema : Schema) (text : Text) (before : History)
    (old new : Option (List ℕ)) : Type 0 where
  pub later : History
  pub load : IsLoad schema text before later
  pub wrote : AppendsPrefix old new
      (loaded_text (length load.rows) (instant_of schema load.rows later))

-- what a fault of a load leaves: nothing was written, unless the writer failed
abbrev pub Unloaded : Fault → Schema → Option Text → History → (old new : Option (List ℕ)) → Type 0
Unloaded Read schema (Some text) before old new = Keeps old new
Unloaded (Load refusal) schema (Some text) before old new =
    (IsNoLoad (schema_after schema before) text refusal
    ⊎ IsRefusedLoad schema before text refusal) × Keeps old new
Unloaded Write schema (Some text) before old new = IsHalfReported schema text before old new
Unloaded fault schema text before old new = ⊥

-- a store that has what was loaded
pub record IsLed (schema : Schema) (text : Option Text) (before : History) (s : SystemState)
    (old new : Option (List ℕ)) : Type 0 where
  pub later : History
  pub loaded : HasLoaded schema text before later old new
  pub stands : Stands schema s later

-- ---- what the parts of a load leave

-- some bytes write rows of a table, and an INSERT of them over no rows is refused
pub record IsRefusedFile (table : Table) (refusal : Refusal) : Type 0 where
  pub bytes : List ℕ
  pub rows : List Row
  pub loads : Loads table bytes (Ok rows)
  pub refused : answered table rows ≡ Err refusal

-- why a table's file has no rows: it cannot be read, or this is what it says, or its rows are refused
abbrev pub IsUnread : Fault → Table → Type 0
IsUnread Read table = Unit {0}
IsUnread (Load refusal) table =
    (refusal ≡ OutOfMemory)
    ⊎ (((bytes : List ℕ) × Loads table bytes (Err refusal)) ⊎ IsRefusedFile table refusal)
IsUnread fault table = ⊥

-- why there are no rows for a text
abbrev pub HasNoRows : Fault → Schema → Text → Type 0
HasNoRows Read schema text = Unit {0}
HasNoRows (Load refusal) schema text = IsNoLoad schema text refusal
HasNoRows fault schema text = ⊥

-- why rows are not loaded into a store
pub record IsUntaken (fault : Fault) (s : SystemState) (number : ℕ) (rows : List Row) : Type 0 where
  pub refusal : Refusal
  pub fault_is : fault ≡ Load refusal
  pub refuses : RefusesFirst s (steps_of number rows) refusal
