use Rattle.std.proofs.Common.{◌≡◌, ◌++◌, drop, map, filter}
use Rattle.rows.specs.SchemaTable.{is_primary_key, marked_key}
use Rattle.rows.proofs.schema_table.push_marked.Given as goal

abbrev pub invariant-loop-mark : goal.invariant-loop-mark
invariant-loop-mark l = l.keys.items ++ map (λ mark. marked_key l.name) (filter is_primary_key (drop l.mark-index l.marks)) ≡ l.initial.keys.items ++ map (λ mark. marked_key l.name) (filter is_primary_key l.marks)
