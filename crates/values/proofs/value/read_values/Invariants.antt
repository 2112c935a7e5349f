use Rattle.std.proofs.Common.{take, All}
use Rattle.values.specs.RowEncoding.{IsHeld}
use Rattle.values.proofs.value.read_values.Given as goal

abbrev pub invariant-loop-value : goal.invariant-loop-value
invariant-loop-value l = All IsHeld (take l.value-index l.values)
