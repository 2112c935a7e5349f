use Rattle.std.proofs.Common.{◌≡◌, ◌-◌}
use Rattle.values.specs.RowReading.{after, values_from}
use Rattle.values.proofs.row_encoding.values_from.Given as goal

abbrev pub invariant-loop : goal.invariant-loop
invariant-loop l = after l.values.items (values_from (l.n - l.counter) l.rest) ≡ values_from l.n l.bytes
