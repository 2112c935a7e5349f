use Rattle.std.proofs.Common.{◌≡◌, ◌++◌, drop}
use Rattle.std.specs.List.{flat_map}
use Rattle.values.specs.KeyEncoding.{part_bytes, bytes_of_key}
use Rattle.values.proofs.key_encoding.key_bytes.Given as goal

abbrev pub invariant-loop-part : goal.invariant-loop-part
invariant-loop-part l = l.bytes.items ++ flat_map part_bytes (drop l.part-index l.key.parts) ≡ bytes_of_key l.key
