-- Tables by their numbers, and the values of their columns by theirs: both are numbered from 1.
use Rattle.std.specs.Prelude.{ℕ, ◌-◌, ◌==◌, ◌||◌, List, [], ◌∷◌, ◌++◌, replicate, Bool, false, Option, Some, None, if◌then◌else◌, length}
use Rattle.std.specs.List.{slice_get, list_any}
use Rattle.std.specs.Option.{unwrap_or}
use Rattle.values.specs.declared.value.Value.{Value}
use Rattle.values.specs.declared.value.Value.TheVariants.{Null}
use Rattle.values.specs.declared.period.Period.{Period}
use Rattle.values.specs.declared.table.Column.{Column}
use Rattle.values.specs.declared.table.Table.{Table}

-- the columns that a table, and the values that a row may have
abbrev pub widest : ℕ
widest = 16

-- tables in order
pub record Schema : Type 0 where
  pub tables : List Table

abbrev pub table_at : Schema → ℕ → Option Table
table_at schema number = if number == 0 then None else slice_get schema.tables (number - 1)

abbrev pub column_at : Table → ℕ → Option Column
column_at table number = if number == 0 then None else slice_get table.columns (number - 1)

-- the column is one of the key's
abbrev pub is_key_column : Table → ℕ → Bool
is_key_column table number = list_any (λ k. k == number) table.key

-- the column is the end of the table's period of application time
abbrev pub ends_period : Option Period → ℕ → Bool
ends_period None number = false
ends_period (Some p) number = p.to == number

-- a column that no statement sets: one of the key's, or the end of the period
abbrev pub is_fixed_column : Table → ℕ → Bool
is_fixed_column table number = is_key_column table number || ends_period table.period number

-- a row's value of a column, NULL past its end
abbrev pub value_at : List Value → ℕ → Value
value_at row number = unwrap_or (slice_get row (number - 1)) Null

-- a row of so many values: NULL stands for each that it lacks
abbrev pub widened : ℕ → List Value → List Value
widened width row = row ++ replicate (width - length row) Null

-- a row with a value for each column of the table
abbrev pub full_row : Table → List Value → List Value
full_row table row = widened (length table.columns) row

-- all but the last
abbrev pub but_last : {A : Type 0} → List A → List A
but_last [] = []
but_last (x ∷ []) = []
but_last (x ∷ y ∷ ys) = x ∷ but_last (y ∷ ys)
