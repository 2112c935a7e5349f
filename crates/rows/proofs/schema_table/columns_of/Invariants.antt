use Rattle.std.proofs.Common.{◌≡◌, ◌++◌, drop, option_copied}
use Rattle.std.specs.List.{filter_map}
use Rattle.rows.specs.SchemaTable.{user_column}
use Rattle.rows.proofs.schema_table.columns_of.Given as goal

abbrev pub invariant-loop-entry : goal.invariant-loop-entry
invariant-loop-entry l =
    l.columns.items ++ filter_map (user_column (option_copied l.application)) (drop l.entry-index l.entries) ≡ filter_map (user_column (option_copied l.application)) l.entries
