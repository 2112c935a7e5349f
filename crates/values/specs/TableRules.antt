-- What is true of every table of a schema, and of its period of application time.
use Rattle.std.specs.Prelude.{◌≡◌, ◌≢◌, ℕ, ◌+◌, ◌≤◌, ◌==◌, List, [], ◌∷◌, ◌++◌, true, false, Some, length, All}
use Rattle.std.specs.List.{list_any}
use Rattle.std.specs.Option.{ForSome}
use Rattle.values.specs.declared.period.Period.{Period}
use Rattle.values.specs.declared.table.ColumnType.TheVariants.{Int as IsInt}
use Rattle.values.specs.declared.table.Column.{Column}
use Rattle.values.specs.declared.table.Table.{Table}
use Rattle.values.specs.Tables.{widest, Schema, table_at, column_at, but_last}

-- the columns that a key may have
abbrev pub most_key_columns : ℕ
most_key_columns = 4

-- the digits of a second that a column of a period may have
abbrev pub most_digits : ℕ
most_digits = 12

-- the tables that a schema may have
abbrev pub most_tables : ℕ
most_tables = 16

-- the column is one of the table's
pub record IsColumnOf (table : Table) (number : ℕ) : Type 0 where
  pub from_1 : 1 ≤ number
  pub within : number ≤ length table.columns

-- no column stands twice
abbrev pub IsDistinct : List ℕ → Type 0
IsDistinct columns =
    (before after : List ℕ) (n : ℕ) → columns ≡ before ++ n ∷ after
    → list_any (λ c. c == n) before ≡ false

-- the column is none of the period's
pub record IsOutside (p : Period) (column : ℕ) : Type 0 where
  pub from_1 : 1 ≤ column
  pub no_start : column ≢ p.from
  pub no_end : column ≢ p.to

-- a column of whole numbers, which are never NULL
pub record HasInstants (column : Column) : Type 0 where
  pub whole : column.of ≡ IsInt
  pub never_null : column.not_null ≡ true

-- the table has the period of application time: two of its columns, of which the start is the last
-- of the key's, and the end none of them
pub record HasPeriod (table : Table) (p : Period) : Type 0 where
  pub start : IsColumnOf table p.from
  pub end : IsColumnOf table p.to
  pub start_instants : ForSome (column_at table p.from) HasInstants
  pub end_instants : ForSome (column_at table p.to) HasInstants
  pub differ : p.from ≢ p.to
  pub entity : All (IsOutside p) (but_last table.key)
  pub start_last : table.key ≡ but_last table.key ++ p.from ∷ []
  pub distinct : IsDistinct table.key

-- the table has the number, at most 16, 1 to 16 columns, and at most four key columns, which are
-- among them; so are those of its period, if it has one
pub record IsTable (number : ℕ) (table : Table) : Type 0 where
  pub numbered : table.number ≡ number
  pub small : number ≤ most_tables
  pub some_columns : 1 ≤ length table.columns
  pub few_columns : length table.columns ≤ widest
  pub few_key_columns : length table.key ≤ most_key_columns
  pub own_key_columns : All (IsColumnOf table) table.key
  pub own_period : ForSome table.period (HasPeriod table)

-- such tables, with the numbers from one on
abbrev pub AreTables : ℕ → List Table → Type 0
AreTables number [] = Unit {0}
AreTables number (table ∷ tables) = IsTable number table × AreTables (number + 1) tables

-- the schema has a table of the number
abbrev pub IsNumberIn : Schema → ℕ → Type 0
IsNumberIn schema number = (table : Table) × (table_at schema number ≡ Some table)
