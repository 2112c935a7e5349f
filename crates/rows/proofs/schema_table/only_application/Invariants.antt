use Rattle.std.proofs.Common.{◌≡◌, ◌++◌, drop, option_copied}
use Rattle.std.specs.List.{filter_map}
use Rattle.std.specs.Option.{option_to_list}
use Rattle.rows.specs.SchemaTable.{only, application_period}
use Rattle.rows.proofs.schema_table.only_application.Given as goal

abbrev pub invariant-loop-entry : goal.invariant-loop-entry
invariant-loop-entry l = only (option_to_list (option_copied l.found) ++ filter_map application_period (drop l.entry-index l.entries)) ≡ only (filter_map application_period l.entries)
