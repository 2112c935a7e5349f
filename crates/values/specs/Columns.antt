-- Columns that are added to tables.
use Rattle.std.specs.Prelude.{ℕ, List, [], ◌∷◌, ◌++◌, ◌-◌, ◌||◌, ◌&&◌, not, Bool, true, false, Option, Some, None, is_some, length, nat_le, nat_lt, slice_set, if◌then◌else◌}
use Rattle.values.specs.declared.table.ColumnType.{ColumnType}
use Rattle.values.specs.declared.table.ColumnType.TheVariants.{Varchar}
use Rattle.values.specs.declared.table.Column.{Column}
use Rattle.values.specs.declared.table.Table.{Table}
use Rattle.values.specs.Fit.{longest_text}
use Rattle.values.specs.Names.{same_name, names_period, column_number}
use Rattle.values.specs.Tables.{Schema, table_at, widest}

-- the name is one of the table's columns, those of system time too, or that of its period
abbrev pub is_name_of : Table → List ℕ → Bool
is_name_of table name =
    is_some (column_number table name)
    || (same_name table.row_start name
    || (same_name table.row_end name || names_period table.period name))

-- VARCHAR has from one character to as many as a text has bytes
abbrev pub is_good_type : ColumnType → Bool
is_good_type (Varchar n) = nat_le 1 n && nat_le n longest_text
is_good_type _ = true

-- why a table cannot get a column: its name is taken, the table is as wide as can be, or no column
-- has its type
abbrev pub addition_fault : List ℕ → ColumnType → Table → Option ℕ
addition_fault name of table =
    if is_name_of table name
    || (not (nat_lt (length table.columns) widest) || not (is_good_type of))
    then Some 0 else None

-- a column that may be NULL
abbrev pub new_column : List ℕ → ColumnType → Column
new_column name of = record { name = name; of = of; not_null = false }

-- the table with one column more, its last
abbrev pub with_column : Column → Table → Table
with_column column table = record table { columns = table.columns ++ column ∷ [] }

-- the tables, of which the one of the number has one column more
abbrev pub add_column : ℕ → Column → Schema → Schema
add_column number column schema = elim (table_at schema number) [
  | None ↦ schema
  | Some table ↦
      record { tables = slice_set schema.tables (number - 1) (with_column column table) }
]
