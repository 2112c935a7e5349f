use Rattle.std.proofs.Common.{take}
use Rattle.slots.specs.Beside.{AreElsewhere}
use Rattle.slots.proofs.beside.first_of.Given as goal

abbrev pub invariant-loop-at : goal.invariant-loop-at
invariant-loop-at g l = AreElsewhere l.place (take l.at l.items)
