use Rattle.std.proofs.Common.{◌≡◌, take, map, All}
use Rattle.values.specs.Tables.{value_at}
use Rattle.values.specs.RowEncoding.{IsHeld}
use Rattle.values.proofs.table.Table.key.Given as goal

abbrev pub invariant-loop-column : goal.invariant-loop-column
invariant-loop-column l = record {
  parts_are : l.parts.items ≡ map (value_at l.row) (take l.column-index l.column-items);
  held : All IsHeld l.parts.items;
}
