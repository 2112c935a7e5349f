-- The lines that add columns to a table.
use Rattle.std.specs.Prelude.{ℕ, List, ◌++◌, codes, drop, take}
use Rattle.std.specs.List.{flat_map}
use Rattle.values.specs.declared.table.Column.{Column}
use Rattle.values.specs.declared.table.Table.{Table}
use Rattle.statement.specs.Print.{line}
use Rattle.dumping.specs.DumpText.{type_text}
use Rattle.dumping.specs.Name.{named}

-- the columns from one width up to another
abbrev pub columns_between : Table → (from to : ℕ) → List Column
columns_between table from to = drop from (take to table.columns)

-- the line of an addition, piece by piece
abbrev pub column_line : Table → Column → List ℕ
column_line table column =
    named (codes "1: ALTER TABLE ") table.name (codes " ADD COLUMN ")
    ++ (column.name ++ (codes " " ++ line (type_text column.of)))

abbrev pub columns_text : Table → (from to : ℕ) → List ℕ
columns_text table from to = flat_map (column_line table) (columns_between table from to)
