-- The rows that a file of CSV writes.
use Rattle.std.specs.Prelude.{◌≡◌, ℕ, ◌+◌, ◌==◌, List, [], ◌∷◌, ◌++◌, Some, None, Result, Ok, Err, length, map, unwrap_or, Vec, if◌then◌else◌}
use Rattle.csv.specs.Reading.{AreRecords, default_config, strip_bom}
use Rattle.csv.specs.Records.{field_at}
use Rattle.csv.specs.declared.parser.State.TheVariants as state
use Rattle.values.specs.declared.value.Value.{Value}
use Rattle.values.specs.declared.value.Value.TheVariants.{Null}
use Rattle.values.specs.declared.table.Column.{Column}
use Rattle.values.specs.declared.table.Table.{Table}
use Rattle.values.specs.declared.refusal.Refusal.{Refusal}
use Rattle.values.specs.declared.refusal.Refusal.TheVariants.{BadRow, Memory}
use Rattle.values.specs.Log.{Row}
use Rattle.values.specs.Write.{rows_refusal}
use Rattle.values.specs.Writes.{Own, insert_into}
use Rattle.values.specs.Names.{column_number}
use Rattle.statement.specs.Meaning.{is_column_list, place_of, row_in}
use Rattle.interchange.specs.Field.{field_value}

-- a record of CSV, by its fields
abbrev pub Record : Type 0
Record = List (List ℕ)

-- all records of a file, in order; a byte order mark before them is dropped
abbrev pub AreRecordsOf : List ℕ → List Record → Type 0
AreRecordsOf bytes records = AreRecords default_config state.StartRecord (strip_bom bytes) records

-- the columns that a header names, by their numbers; 0 for what is no user column's name
abbrev pub column_list : Table → Record → List ℕ
column_list table header = map (λ name. unwrap_or (column_number table name) 0) header

-- the value that a record gives a column; NULL where the header does not name it
abbrev pub value_in : List ℕ → Record → ℕ → Column → Value
value_in columns fields number column = elim (place_of columns number) [
  | None ↦ Null
  | Some i ↦ field_value column.of (unwrap_or (field_at fields i) [])
]

-- the values for the columns of a table, numbered from here on, after those before
abbrev pub values_from : List ℕ → Record → Row → ℕ → List Column → Row
values_from columns fields front number [] = front
values_from columns fields front number (column ∷ rest) =
    values_from columns fields (front ++ value_in columns fields number column ∷ [])
    (number + 1) rest

-- the row that a record writes, or its first fault; the width comes first
abbrev pub row_of : Table → List ℕ → Record → Result Row Refusal
row_of table columns fields =
    if length columns == length fields
    then row_in table (values_from columns fields [] 1 table.columns)
    else Err (BadRow 0)

-- the same of records in turn, after the rows before
abbrev pub rows_from : Table → List ℕ → List Row → List Record → Result (List Row) Refusal
rows_from table columns front [] = Ok front
rows_from table columns front (fields ∷ records) = elim (row_of table columns fields) [
  | Err refusal ↦ Err refusal
  | Ok row ↦ rows_from table columns (front ++ row ∷ []) records
]

-- the rows of a file: its first record names columns, as the column list of an INSERT does
abbrev pub rows_of : Table → List Record → Result (List Row) Refusal
rows_of table [] = Err (BadRow 0)
rows_of table (header ∷ records) =
    if is_column_list (column_list table header)
    then rows_from table (column_list table header) [] records
    else Err (BadRow 0)

-- what was read, with its rows as a list
abbrev pub vec_items : {A : Type 0} → Result (Vec Row A) Refusal → Result (List Row) Refusal
vec_items (Ok rows) = Ok rows.items
vec_items (Err refusal) = Err refusal

-- these are the rows of the file, or this is why it has none, unless memory ran out
abbrev pub Loads : Table → List ℕ → Result (List Row) Refusal → Type 0
Loads table bytes (Err Memory) = Unit {0}
Loads table bytes result =
    (records : List Record) × AreRecordsOf bytes records × (rows_of table records ≡ result)

-- ---- what an INSERT makes of them

-- a transaction that has written nothing, over no rows
abbrev pub nothing : Own
nothing = record { rows = []; written = [] }

-- what an INSERT of rows over no rows answers: why they do not fit comes first
abbrev pub answered : Table → List Row → Result ℕ Refusal
answered table rows = elim (rows_refusal table rows) [
  | Some why ↦ Err why
  | None ↦ (insert_into table rows nothing).0
]

-- rows, unless there is a reason why there are none, or why an INSERT of them over no rows is refused
abbrev pub inserted : Table → Result (List Row) Refusal → Result (List Row) Refusal
inserted table (Err why) = Err why
inserted table (Ok rows) = elim (answered table rows) [
  | Err why ↦ Err why
  | Ok count ↦ Ok rows
]
