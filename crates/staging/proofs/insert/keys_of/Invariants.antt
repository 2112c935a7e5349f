use Rattle.std.proofs.Common.{◌≡◌, take, map, All}
use Rattle.values.specs.Writes.{key_of}
use Rattle.values.specs.KeyReading.{IsKeyOf}
use Rattle.staging.proofs.insert.keys_of.Given as goal

abbrev pub invariant-loop-row : goal.invariant-loop-row
invariant-loop-row l = record {
  are : l.keys.items ≡ map (key_of l.table) (take l.row-index l.rows);
  own : All (IsKeyOf l.table) l.keys.items;
}
