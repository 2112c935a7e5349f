use Rattle.std.proofs.Common.{◌≡◌, ◌++◌, drop}
use Rattle.std.specs.List.{flat_map}
use Rattle.rows.specs.SchemaTable.{keys_in}
use Rattle.rows.proofs.schema_table.keys_of.Given as goal

abbrev pub invariant-loop-entry : goal.invariant-loop-entry
invariant-loop-entry l = l.keys.items ++ flat_map keys_in (drop l.entry-index l.entries) ≡ flat_map keys_in l.entries
