use Rattle.std.proofs.Common.{◌≡◌, false, length}
use Rattle.values.specs.RowReading.{after}
use Rattle.values.specs.KeyReading.{text_from}
use Rattle.values.proofs.key_reading.text_from.Given as goal

abbrev pub invariant-loop-rest : goal.invariant-loop-rest
invariant-loop-rest l = after l.text.items (text_from l.zero_before l.rest) ≡ text_from false l.bytes

abbrev pub decreases-loop-rest : goal.decreases-loop-rest
decreases-loop-rest l = length l.rest
