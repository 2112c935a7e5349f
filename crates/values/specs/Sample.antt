-- The table and the schema where none is declared: employees, by number.
use Rattle.std.specs.Prelude.{[], ◌∷◌, None, codes, false}
use Rattle.values.specs.declared.table.Table.{Table}
use Rattle.values.specs.Tables.{Schema}
use Rattle.values.specs.declared.table.ColumnType.TheVariants.{Int as IsInt, Text as IsText}

abbrev pub sample_table : Table
sample_table = record {
  number = 1;
  name = codes "emp";
  columns =
      record { name = codes "no"; of = IsInt; not_null = false }
      ∷ record { name = codes "name"; of = IsText; not_null = false } ∷ [];
  key = 1 ∷ [];
  row_start = codes "sys_start";
  row_end = codes "sys_end";
  period = None;
}

abbrev pub sample : Schema
sample = record { tables = sample_table ∷ [] }
