use Rattle.std.proofs.Common.{◌≡◌, ◌++◌, drop, map}
use Rattle.rows.specs.SchemaTable.{number_in}
use Rattle.rows.proofs.schema_table.numbers_in.Given as goal

abbrev pub invariant-loop-name : goal.invariant-loop-name
invariant-loop-name l = l.numbers.items ++ map (number_in l.columns) (drop l.name-index l.names) ≡ map (number_in l.columns) l.names
