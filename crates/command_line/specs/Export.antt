-- What is written of a table after a script.
use Rattle.std.specs.Prelude.{◌≡◌, ◌⊎◌, ℕ, List, [], Option, Some, None}
use Rattle.std.specs.Io.KnownBytes.{Appends, Keeps}
use Rattle.clap.specs.Words.{Text}
use Rattle.values.specs.Commits.{max_instant}
use Rattle.values.specs.declared.table.Table.{Table}
use Rattle.values.specs.declared.query.Shown.{Shown}
use Rattle.values.specs.declared.query.Form.TheVariants.{Between}
use Rattle.values.specs.TableNumber.{table_number}
use Rattle.values.specs.Tables.{Schema, table_at}
use Rattle.steps.specs.declared.step.Step.{Step}
use Rattle.steps.specs.declared.step.Step.TheVariants.{Select}
use Rattle.steps.specs.declared.step.Listing.TheVariants.{Periods}
use Rattle.steps.specs.declared.step.Reply.TheVariants.{Shown as Shows}
use Rattle.histories.specs.History.{History, schema_after, reply}
use Rattle.statement.specs.Writer.{AppendsPrefix}
use Rattle.interchange.specs.Version.{export_text}
use Rattle.command_line.specs.declared.fault.Fault.{Fault}
use Rattle.command_line.specs.declared.fault.Fault.TheVariants.{NoExport, Write, Memory}

-- the number of the table that is asked for, where one is
abbrev pub Exports : Schema → Option Text → Option ℕ → Type 0
Exports schema None number = number ≡ None
Exports schema (Some name) number =
    (n : ℕ) × (number ≡ Some n) × (table_number schema name ≡ Some n)

-- there is no such table
abbrev pub IsUnknown : Schema → Option Text → Type 0
IsUnknown schema None = ⊥
IsUnknown schema (Some name) = table_number schema name ≡ None

-- all versions of a table are asked for, with their periods, by session 0
abbrev pub all_versions : ℕ → Step
all_versions number =
    Select 0 (Between 0 max_instant) (record { table = number; comparisons = [] })

-- what a table shows after a history, with the columns that it has then
pub record HasVersions (schema : Schema) (number : ℕ) (h : History) (table : Table)
    (shown : List Shown) : Type 0 where
  pub table_is : table_at (schema_after schema h) number ≡ Some table
  pub shown_are : reply schema h (all_versions number) ≡ Shows (Periods shown)

-- the header and all versions were written
pub record IsWritten (schema : Schema) (number : ℕ) (h : History) (old new : Option (List ℕ))
    : Type 0 where
  pub table : Table
  pub shown : List Shown
  pub has : HasVersions schema number h table shown
  pub wrote : Appends old new (export_text table shown)

pub record IsHalfWritten (schema : Schema) (number : ℕ) (h : History) (old new : Option (List ℕ))
    : Type 0 where
  pub table : Table
  pub shown : List Shown
  pub has : HasVersions schema number h table shown
  pub wrote : AppendsPrefix old new (export_text table shown)

-- after a history a table was exported, where one is asked for, and nothing else was written
abbrev pub HasExported : Schema → Option ℕ → History → (old new : Option (List ℕ)) → Type 0
HasExported schema None h old new = Keeps old new
HasExported schema (Some number) h old new = IsWritten schema number h old new

-- what a fault of an export leaves: a prefix of the text
abbrev pub Unexported : Fault → Schema → Option ℕ → History → (old new : Option (List ℕ)) → Type 0
Unexported Write schema (Some number) h old new = IsHalfWritten schema number h old new
Unexported Memory schema (Some number) h old new =
    Keeps old new ⊎ IsHalfWritten schema number h old new
Unexported NoExport schema (Some number) h old new =
    table_at (schema_after schema h) number ≡ None
Unexported fault schema number h old new = ⊥

-- why an export stops in its text
abbrev pub IsOfWriting : Fault → Type 0
IsOfWriting fault = (fault ≡ Write) ⊎ (fault ≡ Memory)
