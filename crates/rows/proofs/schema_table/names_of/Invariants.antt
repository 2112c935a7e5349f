use Rattle.std.proofs.Common.{◌≡◌, ◌++◌, drop}
use Rattle.std.specs.List.{filter_map}
use Rattle.rows.specs.SchemaTable.{declared_name}
use Rattle.rows.proofs.schema_table.names_of.Given as goal

abbrev pub invariant-loop-entry : goal.invariant-loop-entry
invariant-loop-entry l = l.names.items ++ filter_map declared_name (drop l.entry-index l.entries) ≡ filter_map declared_name l.entries
