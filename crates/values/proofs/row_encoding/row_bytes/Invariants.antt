use Rattle.std.proofs.Common.{◌≡◌, ◌++◌, drop}
use Rattle.std.specs.List.{flat_map}
use Rattle.values.specs.RowEncoding.{value_bytes, bytes_of_row}
use Rattle.values.proofs.row_encoding.row_bytes.Given as goal

abbrev pub invariant-loop-value : goal.invariant-loop-value
invariant-loop-value l = l.bytes.items ++ flat_map value_bytes (drop l.value-index l.row) ≡ bytes_of_row l.row
