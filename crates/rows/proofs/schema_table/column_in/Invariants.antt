use Rattle.std.proofs.Common.{◌≡◌, ◌+◌, drop}
use Rattle.std.specs.List.{position_from}
use Rattle.values.specs.declared.table.Column.{Column}
use Rattle.values.specs.Names.{same_name}
use Rattle.rows.proofs.schema_table.column_in.Given as goal

abbrev pub invariant-loop-i : goal.invariant-loop-i
invariant-loop-i l =
    position_from (λ (c : Column). same_name c.name l.name) (l.i + 1) (drop l.i l.columns) ≡ position_from (λ (c : Column). same_name c.name l.name) 1 l.columns
