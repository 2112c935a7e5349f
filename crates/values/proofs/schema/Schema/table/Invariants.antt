use Rattle.std.proofs.Common.{◌≡◌, drop, find}
use Rattle.values.specs.Names.{same_name}
use Rattle.values.proofs.schema.Schema.table.Given as goal

abbrev pub invariant-loop-table : goal.invariant-loop-table
invariant-loop-table l = find (λ t. same_name t.name l.name) (drop l.table-index l.table-items) ≡ find (λ t. same_name t.name l.name) l.table-items
