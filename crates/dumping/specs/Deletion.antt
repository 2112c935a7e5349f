-- The lines that take one key.
use Rattle.std.specs.Prelude.{ℕ, List, [], ◌++◌, codes}
use Rattle.values.specs.declared.key.Key.{Key}
use Rattle.values.specs.declared.table.Table.{Table}
use Rattle.values.specs.declared.value.Value.{Value}
use Rattle.statement.specs.Print.{line, value_text}
use Rattle.dump_steps.specs.Dump.{keys_of}
use Rattle.dumping.specs.DumpText.{column_name, where_text}
use Rattle.dumping.specs.Name.{named}

-- a column and its value
abbrev pub pair_of : Table → ℕ → Value → List ℕ
pair_of table column value = column_name table column ++ (codes " = " ++ value_text value)

-- the line of a deletion, piece by piece
abbrev pub delete_line : Table → Key → List ℕ
delete_line table key =
    named (codes "1: DELETE FROM ") table.name [] ++ line (where_text table (keys_of table key).comparisons)
