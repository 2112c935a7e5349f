use Rattle.std.proofs.Common.{◌≡◌, ◌++◌, drop, map}
use Rattle.std.specs.List.{flat_map}
use Rattle.values.specs.KeyEncoding.{part_bytes, bytes_of_key}
use Rattle.values.specs.Tables.{value_at}
use Rattle.values.specs.Writes.{key_of}
use Rattle.interchange.proofs.key_set.key_buffer.Given as goal

abbrev pub invariant-loop-column : goal.invariant-loop-column
invariant-loop-column l = l.bytes.items ++ flat_map part_bytes (map (value_at l.row) (drop l.column-index l.table.key)) ≡ bytes_of_key (key_of l.table l.row)
