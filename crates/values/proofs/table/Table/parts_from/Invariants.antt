use Rattle.std.proofs.Common.{◌≡◌, drop}
use Rattle.values.specs.RowReading.{after}
use Rattle.values.specs.KeyReading.{parts_from}
use Rattle.values.proofs.table.Table.parts_from.Given as goal

abbrev pub invariant-loop-number : goal.invariant-loop-number
invariant-loop-number l = after l.parts.items (parts_from l.self (drop l.number-index l.self.key) l.rest) ≡ parts_from l.self l.self.key l.bytes
