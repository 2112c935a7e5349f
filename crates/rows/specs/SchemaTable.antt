-- The tables that declarations make, and which declarations make none.
use Rattle.std.specs.Prelude.{◌≡◌, ℕ, ◌+◌, ◌-◌, List, [], ◌∷◌, ◌++◌, ◌==◌, ◌&&◌, ◌||◌, Bool, true, false, not, nat_le, nat_lt, Option, Some, None, Result, Ok, Err, if◌then◌else◌, length, map, filter, count_by, option_and_then}
use Rattle.std.specs.List.{list_any, list_all, filter_map, flat_map, position_from}
use Rattle.std.specs.Option.{unwrap_or}
use Rattle.values.specs.declared.table.ColumnType.{ColumnType}
use Rattle.values.specs.declared.table.ColumnType.TheVariants.{Int, Varchar}
use Rattle.values.specs.declared.period.Period.{Period as TablePeriod}
use Rattle.values.specs.declared.table.Column.{Column}
use Rattle.values.specs.declared.table.Table.{Table}
use Rattle.values.specs.Fit.{longest_text}
use Rattle.values.specs.Tables.{Schema, but_last, widest}
use Rattle.values.specs.TableRules.{most_digits, most_key_columns, most_tables}
use Rattle.rows.specs.declared.declaration.Mark.{Mark}
use Rattle.rows.specs.declared.declaration.Mark.TheVariants.{NotNull, PrimaryKey}
use Rattle.rows.specs.declared.declaration.Side.{Side}
use Rattle.rows.specs.declared.declaration.Side.TheVariants.{Start, End}
use Rattle.rows.specs.declared.declaration.PeriodNames.{PeriodNames}
use Rattle.rows.specs.declared.declaration.ApplicationPeriod.{ApplicationPeriod}
use Rattle.rows.specs.declared.declaration.KeyClause.{KeyClause}
use Rattle.rows.specs.declared.declaration.Entry.{Entry}
use Rattle.rows.specs.declared.declaration.Entry.TheVariants.{User, Generated, Period, Application, Key}
use Rattle.rows.specs.declared.declaration.Declaration.{Declaration}
use Rattle.rows.specs.declared.schema_reading.SchemaFault.{SchemaFault}
use Rattle.rows.specs.declared.schema_reading.SchemaFault.TheVariants.{Syntax, BadTable, Memory}
use Rattle.values.specs.Names.{same_name}
use Rattle.rows.specs.Declaration.{creates_at}

abbrev pub is_not_null : Mark → Bool
is_not_null NotNull = true
is_not_null PrimaryKey = false

abbrev pub is_primary_key : Mark → Bool
is_primary_key NotNull = false
is_primary_key PrimaryKey = true

abbrev pub same_side : Side → Side → Bool
same_side Start Start = true
same_side End End = true
same_side _ _ = false

-- the period of application time has the column
abbrev pub is_of_period : Option ApplicationPeriod → List ℕ → Bool
is_of_period None name = false
is_of_period (Some p) name = same_name p.columns.start name || same_name p.columns.end name

-- no column of a period of application time takes NULL
abbrev pub user_column : Option ApplicationPeriod → Entry → Option Column
user_column period (User c) =
    Some (record {
      name = c.name;
      of = c.of;
      not_null = list_any is_not_null c.marks || is_of_period period c.name;
    })
user_column period _ = None

-- the name of a user or generated column, or of a period of application time
abbrev pub declared_name : Entry → Option (List ℕ)
declared_name (User c) = Some c.name
declared_name (Generated g) = Some g.name
declared_name (Application p) = Some p.name
declared_name _ = None

-- the name of the ROW START or the ROW END column
abbrev pub side_name : Side → Entry → Option (List ℕ)
side_name side (Generated g) = if same_side g.side side then Some g.name else None
side_name side _ = None

abbrev pub period_names : Entry → Option PeriodNames
period_names (Period p) = Some p
period_names _ = None

abbrev pub application_period : Entry → Option ApplicationPeriod
application_period (Application p) = Some p
application_period _ = None

abbrev pub is_application : Entry → Bool
is_application (Application p) = true
is_application _ = false

-- the key of a column that a mark gives
abbrev pub marked_key : List ℕ → KeyClause
marked_key name = record { names = name ∷ []; without_overlaps = false }

-- the keys that an entry gives: a clause gives one, and so does each mark of a column
abbrev pub keys_in : Entry → List KeyClause
keys_in (Key clause) = clause ∷ []
keys_in (User c) = map (λ mark. marked_key c.name) (filter is_primary_key c.marks)
keys_in _ = []

-- VARCHAR has from one character to as many as a text has bytes
abbrev pub is_good_type : ColumnType → Bool
is_good_type (Varchar n) = nat_le 1 n && nat_le n longest_text
is_good_type _ = true

abbrev pub is_good_precision : Option ℕ → Bool
is_good_precision None = true
is_good_precision (Some n) = nat_le n most_digits

-- NOT NULL is given at most once
abbrev pub is_good_entry : Entry → Bool
is_good_entry (User c) = is_good_type c.of && nat_le (count_by is_not_null c.marks) 1
is_good_entry (Generated g) =
    is_good_precision g.digits && not (g.not_null_before && g.not_null_after)
is_good_entry _ = true

-- no name is given twice
abbrev pub are_distinct : List (List ℕ) → Bool
are_distinct [] = true
are_distinct (name ∷ names) = not (list_any (same_name name) names) && are_distinct names

-- the one element
abbrev pub only : {A : Type 0} → List A → Option A
only (x ∷ []) = Some x
only _ = None

-- the last of the names is the name
abbrev pub ends_with_name : List ℕ → List (List ℕ) → Bool
ends_with_name name [] = false
ends_with_name name (last ∷ []) = same_name name last
ends_with_name name (x ∷ y ∷ names) = ends_with_name name (y ∷ names)

-- the names of the key's columns where there is a period of application time: the entity's, and in
-- place of the period's name its start
abbrev pub period_key_names : ApplicationPeriod → KeyClause → Option (List (List ℕ))
period_key_names p clause =
    if clause.without_overlaps && ends_with_name p.name clause.names
    then Some (but_last clause.names ++ p.columns.start ∷ [])
    else None

-- the names of the key's columns: WITHOUT OVERLAPS is given where there is a period, and nowhere else
abbrev pub key_names : Option ApplicationPeriod → KeyClause → Option (List (List ℕ))
key_names None clause = if clause.without_overlaps then None else Some clause.names
key_names (Some p) clause = period_key_names p clause

-- a user column's number, from 1, or 0 where none has the name
abbrev pub number_in : List Column → List ℕ → ℕ
number_in columns name = unwrap_or (position_from (λ c. same_name c.name name) 1 columns) 0

abbrev pub is_int : ColumnType → Bool
is_int Int = true
is_int _ = false

-- a column of whole numbers has the name
abbrev pub has_int_column : List Column → List ℕ → Bool
has_int_column columns name = list_any (λ c. same_name c.name name && is_int c.of) columns

-- the one period of application time is between two columns of whole numbers, of which the end is
-- none of the key's: so it is not the start, which is one; where no period is the only one, there is
-- none
abbrev pub is_good_application : List Entry → List Column → List (List ℕ) → Option ApplicationPeriod → Bool
is_good_application entries columns key None = not (list_any is_application entries)
is_good_application entries columns key (Some p) =
    has_int_column columns p.columns.start && has_int_column columns p.columns.end
    && not (list_any (same_name p.columns.end) key)

-- the table's period of application time, by the numbers of its columns
abbrev pub period_in : List Column → Option ApplicationPeriod → Option TablePeriod
period_in columns None = None
period_in columns (Some p) =
    Some (record {
      name = p.name;
      from = number_in columns p.columns.start;
      to = number_in columns p.columns.end;
    })

-- one to four different user columns
abbrev pub is_good_key : List (List ℕ) → List ℕ → Bool
is_good_key names numbers =
    nat_le (length names) most_key_columns && are_distinct names
    && not (list_any (λ n. n == 0) numbers)

-- the period names the ROW START and the ROW END column
abbrev pub is_good_period : List ℕ → List ℕ → PeriodNames → Bool
is_good_period start end period = same_name start period.start && same_name end period.end

-- one user column to those of the widest table
abbrev pub is_good_width : List Column → Bool
is_good_width columns = nat_le 1 (length columns) && nat_le (length columns) widest

abbrev pub are_good_entries : List Entry → Bool
are_good_entries entries =
    list_all is_good_entry entries && are_distinct (filter_map declared_name entries)

infixl 10 ◌>>=◌
abbrev ◌>>=◌ : {A B : Type 0} → Option A → (A → Option B) → Option B
o >>= f = option_and_then f o

-- the table with a number and these names, where the entries make one
unfoldable pub keyed_table : ℕ → Declaration → List ℕ → List ℕ → Option ApplicationPeriod → List (List ℕ) → Option Table
keyed_table number d start end period names =
    let columns = filter_map (user_column period) d.entries in
    let key = map (number_in columns) names in
    if is_good_key names key && is_good_width columns && is_good_application d.entries columns names period
    && are_good_entries d.entries
    then Some (record {
      number = number;
      name = d.name;
      columns = columns;
      key = key;
      row_start = start;
      row_end = end;
      period = period_in columns period;
    })
    else None

-- the table with a number, where the declaration makes one
unfoldable pub table_of : ℕ → Declaration → Option Table
table_of number d = do
  start ← only (filter_map (side_name Start) d.entries)
  end ← only (filter_map (side_name End) d.entries)
  period ← only (filter_map period_names d.entries)
  clause ← only (flat_map keys_in d.entries)
  let application = only (filter_map application_period d.entries)
  names ← key_names application clause
  if is_good_period start end period then keyed_table number d start end application names else None

-- the table after these, where a schema may have one more: no two have one name
unfoldable pub next_table : List Table → Declaration → Option Table
next_table tables d =
    if nat_lt (length tables) most_tables && not (list_any (λ t. same_name t.name d.name) tables)
    then table_of (length tables + 1) d
    else None

-- these tables and those of the declarations, or the number of the first declaration that makes
-- none
abbrev pub tables_from : List Table → List Declaration → Result Schema SchemaFault
tables_from tables [] = Ok (record { tables = tables })
tables_from tables (d ∷ ds) =
    elim (next_table tables d) [
      | None ↦ Err (BadTable (length tables + 1))
      | Some t ↦ tables_from (tables ++ t ∷ []) ds
    ]

-- the bytes that a schema's text may have
abbrev pub longest_schema : ℕ
longest_schema = 65536

-- the schema of a text, or where its first fault is: syntax is looked for in the whole text before
-- any table is
unfoldable pub read_schema : List ℕ → Result Schema SchemaFault
read_schema text =
    if nat_lt longest_schema (length text) then Err (Syntax longest_schema)
    else elim (creates_at text) [
      | Err at ↦ Err (Syntax (length text - length at))
      | Ok declarations ↦ tables_from [] declarations.0
    ]

-- What a function returned is this, unless memory ran out.
abbrev pub IsOrMemory : Result Schema SchemaFault → Result Schema SchemaFault → Type 0
IsOrMemory (Err Memory) r = Unit {0}
IsOrMemory (Ok schema) r = Ok schema ≡ r
IsOrMemory (Err (Syntax at)) r = Err (Syntax at) ≡ r
IsOrMemory (Err (BadTable n)) r = Err (BadTable n) ≡ r
