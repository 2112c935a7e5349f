use Rattle.std.proofs.Common.{◌≡◌, ◌++◌, drop, option_copied}
use Rattle.std.specs.List.{filter_map}
use Rattle.std.specs.Option.{option_to_list}
use Rattle.rows.specs.SchemaTable.{only, period_names}
use Rattle.rows.proofs.schema_table.only_period.Given as goal

abbrev pub invariant-loop-entry : goal.invariant-loop-entry
invariant-loop-entry l = only (option_to_list (option_copied l.found) ++ filter_map period_names (drop l.entry-index l.entries)) ≡ only (filter_map period_names l.entries)
